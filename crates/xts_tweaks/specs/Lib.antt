pub mod Tweaks

-- Demand 2, second half (RULES.md, Sector map): a volume's user sectors match the host sectors of its data area one to one, outside every
-- header area, and each has its tweak. Sectors are of 512 bytes, whatever the disk's own have.
-- `host_sector`, `user_sector`, `tweak_number` and `tweak_of` are the definitions that the contracts of `sector_map` cite. Assumes nothing.
use Rattle.std.specs.Prelude.{ℕ, ◌+◌, ◌-◌, ◌*◌, ◌/◌, ◌≤◌, ◌<◌, length, get_or, take, drop, replicate, Ok}
use mathlib.Core.{Path.◌≡◌, List.List}
use Rattle.numbers.specs.Numbers.{little_endian}
use Rattle.layout.specs.declared.Layout.{Layout}
use Rattle.opening.specs.Opening.{opened}
use Rattle.sector_map.specs.SectorMap.{sector_count, host_sector, user_sector}
use Rattle.tweaks.specs.Tweaks.{tweak_number, tweak_of}
use Rattle.header_claims.specs.{Header.{SectorSize, KnownKind, DataArea}, Opening.HostSize}
use Rattle.answers.specs.Answers.{refuse}

-- a layout is sound: its host size and its sector size are allowed, its kind is known, and its data area keeps the last header line
pub record Sound (layout : Layout) : Type 0 where
  pub size : HostSize layout.host_size
  pub sectors : SectorSize layout.sector_size
  pub known : KnownKind layout.kind
  pub area : DataArea layout layout.data_size

-- a host sector of the data area: its 512 bytes lie from O on, and end by O+V
pub record InArea (layout : Layout) (host : ℕ) : Type 0 where
  pub starts : layout.data_start ≤ host * 512
  pub ends : host * 512 + 512 ≤ layout.data_start + layout.data_size

-- no byte of a host sector lies in the 65,536 bytes from an offset on
unfoldable pub Outside : ℕ → ℕ → Type 0
Outside offset host = (byte : ℕ) → host * 512 ≤ byte → byte < host * 512 + 512 → offset ≤ byte → byte < offset + 65536 → ⊥

-- a host sector lies in the host and outside all four header areas
pub record OutsideHeaders (host_size host : ℕ) : Type 0 where
  pub in_host : host * 512 + 512 ≤ host_size
  pub standard_header : Outside 0 host
  pub hidden_header : Outside 65536 host
  pub backup : Outside (host_size - 131072) host
  pub hidden_backup : Outside (host_size - 65536) host

-- sixteen bytes: eight that spell a number little-endian, and eight zeros
pub record IsBlock (number : ℕ) (block : List ℕ) : Type 0 where
  pub sixteen : length block ≡ 16
  pub bytes : (i : ℕ) → get_or block i 0 < 256
  pub spells : little_endian (take 8 block) ≡ number
  pub zeros : drop 8 block ≡ replicate 8 0

-- what holds of every sound layout
pub record MapsSectors (layout : Layout) : Type 0 where
  -- V/512 sectors, and no other count: each below is at O/512+u, any other is refused 16
  pub count : sector_count layout ≡ Ok (layout.data_size / 512)
  pub there : (user : ℕ) → user < layout.data_size / 512 → host_sector layout user ≡ Ok (layout.data_start / 512 + user)
  pub past : (user : ℕ) → layout.data_size / 512 ≤ user → host_sector layout user ≡ refuse 16
  -- the way back: each host sector of the data area, and no other
  pub back : (host : ℕ) → InArea layout host → user_sector layout host ≡ Ok (host - layout.data_start / 512)
  pub back_past : (host : ℕ) → (InArea layout host → ⊥) → user_sector layout host ≡ refuse 16
  -- one to one and onto: both round trips
  pub there_and_back : (user host : ℕ) → host_sector layout user ≡ Ok host → user_sector layout host ≡ Ok user
  pub back_and_there : (user host : ℕ) → user_sector layout host ≡ Ok user → host_sector layout user ≡ Ok host
  pub injective : (user other host : ℕ) → host_sector layout user ≡ Ok host → host_sector layout other ≡ Ok host → user ≡ other
  pub onto : (host : ℕ) → InArea layout host → (user : ℕ) × (host_sector layout user ≡ Ok host)
  pub inside : (user host : ℕ) → host_sector layout user ≡ Ok host → InArea layout host
  -- outside every header area
  pub outside : (user host : ℕ) → host_sector layout user ≡ Ok host → OutsideHeaders layout.host_size host
  -- the tweak number is the host sector's, so it counts from the start of the host, never of a hidden volume
  pub tweak : (user : ℕ) → tweak_number layout user ≡ host_sector layout user
  pub from_host_start : (user number : ℕ) → tweak_number layout user ≡ Ok number → number * 512 ≡ layout.data_start + user * 512
  -- the block beside it
  pub tweak_beside : (user : ℕ) → (tweak_of layout user).number ≡ tweak_number layout user
  pub block : (user number : ℕ) → tweak_number layout user ≡ Ok number → IsBlock number (tweak_of layout user).block
  pub no_block : (user : ℕ) → tweak_number layout user ≡ refuse 16 → (tweak_of layout user).block ≡ replicate 16 0

-- what holds of every other layout
pub record RefusesUnsound (layout : Layout) : Type 0 where
  pub count : sector_count layout ≡ refuse 11
  pub there : (user : ℕ) → host_sector layout user ≡ refuse 11
  pub back : (host : ℕ) → user_sector layout host ≡ refuse 11
  pub tweak : (user : ℕ) → tweak_number layout user ≡ refuse 11
  pub tweak_beside : (user : ℕ) → (tweak_of layout user).number ≡ refuse 11
  pub no_block : (user : ℕ) → (tweak_of layout user).block ≡ replicate 16 0

-- the claim, for any layout
pub record MapsExactly (layout : Layout) : Type 0 where
  pub sound : Sound layout → MapsSectors layout
  pub unsound : (Sound layout → ⊥) → RefusesUnsound layout

-- a layout that opening accepts is sound
abbrev pub OpenedIsSound : Type 0
OpenedIsSound =
    (candidates codes : List ℕ) (host_size : ℕ) (layout : Layout) → opened candidates codes host_size ≡ Ok layout → Sound layout

-- Tweaks (RULES.md, Sector map): the number and the block that a sector is enciphered with. What the contracts of `tweaks` cite.
-- Assumes nothing.
use Rattle.std.specs.Prelude.{ℕ, List, ◌++◌, replicate, Ok, Err}
use Rattle.numbers.specs.Numbers.{little_endian_bytes}
use Rattle.layout.specs.declared.Layout.{Layout}
use Rattle.sector_map.specs.SectorMap.{host_sector}
use Rattle.tweaks.specs.declared.Tweak.{Tweak}
use Rattle.answers.specs.Answers.{Answer}

-- the tweak number of a user sector: its host sector's, which counts from the first sector of the host in a hidden volume as well
unfoldable pub tweak_number : Layout → ℕ → Answer ℕ
tweak_number layout user = host_sector layout user

-- the tweak block of a tweak number: its 8 bytes, the least significant first, and 8 zeros; on a refusal sixteen zeros
unfoldable pub block_of : Answer ℕ → List ℕ
block_of (Ok number) = little_endian_bytes 8 number ++ replicate 8 0
block_of (Err refusal) = replicate 16 0

-- the tweak of a user sector: its number, or the refusal, and its block beside it
unfoldable pub tweak_of : Layout → ℕ → Tweak
tweak_of layout user = record { number = tweak_number layout user; block = block_of (tweak_number layout user) }

-- What enciphers a sector (RULES.md, AES, XTS and Plaintext): its field, that under every key it is undone, and that its tweak is the host
-- sector's number, as the block that the sector map gives. `enciphered`, `deciphered` and `tweak_bytes` are the definitions that the contracts
-- of `xts` and `plaintext` cite. Assumes nothing.
use Rattle.std.specs.Prelude.{ℕ, ◌+◌, ◌*◌, ◌/◌, ◌^◌, ◌<◌, Ok}
use mathlib.Core.{Path.◌≡◌, Bool.cond, List.List}
use lib.{Bits.bit_xor, Dec.leb, ListN.length}
use Rattle.bits.specs.Bits.{Bytes}
use Rattle.layout.specs.declared.Layout.{Layout}
use Rattle.judgement.specs.Offsets.{extent_start}
use Rattle.sector_map.specs.SectorMap.{first_sector, host_sector}
use Rattle.tweaks.specs.Tweaks.{block_of, tweak_of}
use Rattle.aes_tables.specs.{Field.{product, inverse}, SBox.{substituted, restored}}
use Rattle.xts.specs.Units.{tweak_bytes, enciphered, deciphered}
use Rattle.header_claims.specs.SectorMap.{Sound}

-- the claim for the field and the substitution that the cipher is made of
pub record KeepsField : Type 0 where
  -- products keep sums; 1 leaves a byte, and 2 moves its bits up, less the polynomial 11B where bit 7 was set
  pub sums : (factor a b : ℕ) → product factor (bit_xor a b) ≡ bit_xor (product factor a) (product factor b)
  pub one : (a : ℕ) → product 1 a ≡ a
  pub doubles : (a : ℕ) → a < 256 → product 2 a ≡ cond (leb 128 a) (bit_xor (a * 2) 0x11B) (a * 2)
  -- a byte times its inverse is 1, but for 0, which is its own
  pub inverses : (a : ℕ) → a < 256 → (a ≡ 0 → ⊥) → product a (inverse a) ≡ 1
  pub zero_inverse : inverse 0 ≡ 0
  -- a byte is substituted and restored, and the other way round
  pub restores : (b : ℕ) → b < 256 → restored (substituted b) ≡ b
  pub substitutes : (b : ℕ) → b < 256 → substituted (restored b) ≡ b

-- so many bytes
pub record IsBytes (size : ℕ) (bytes : List ℕ) : Type 0 where
  pub sized : length bytes ≡ size
  pub each : Bytes bytes

-- the claim for any key of 64 bytes, its halves equal or not, any tweak number, and any unit of 512 bytes: each way undoes the other
pub record EnciphersExactly (key : List ℕ) (number : ℕ) (unit : List ℕ) : Type 0 where
  pub there_and_back : IsBytes 64 key → IsBytes 512 unit → deciphered key number (enciphered key number unit) ≡ unit
  pub back_and_there : IsBytes 64 key → IsBytes 512 unit → enciphered key number (deciphered key number unit) ≡ unit
  -- a unit is as long afterwards, whatever the key
  pub enciphered_sized : length (enciphered key number unit) ≡ 512
  pub deciphered_sized : length (deciphered key number unit) ≡ 512

-- the claim for any two tweak numbers: their bytes are their blocks, and different numbers have different ones
pub record SpellsTweaks (number other : ℕ) : Type 0 where
  pub block : number < 2 ^ 64 → tweak_bytes number ≡ block_of (Ok number)
  pub different : number < 2 ^ 64 → other < 2 ^ 64 → tweak_bytes number ≡ tweak_bytes other → number ≡ other

-- the claim for any layout that is sound
pub record TweaksSectors (layout : Layout) : Type 0 where
  -- the number that a plaintext call takes for a user sector, counted from its volume's first, is that of the host sector by the map
  pub is_host : Sound layout → (user host : ℕ) → host_sector layout user ≡ Ok host → first_sector layout + user ≡ host
  -- .. and so is the extent's first byte, of one sector that a caller moves itself, divided by 512
  pub is_place : Sound layout → (user host : ℕ) → host_sector layout user ≡ Ok host → extent_start layout user / 512 ≡ host
  -- its bytes are the tweak block that the map gives
  pub is_block : Sound layout → (user host : ℕ) → host_sector layout user ≡ Ok host → tweak_bytes host ≡ (tweak_of layout user).block
  -- no two user sectors of a volume have the same
  pub different : Sound layout → (user other host other_host : ℕ) → host_sector layout user ≡ Ok host → host_sector layout other ≡ Ok other_host
      → tweak_bytes host ≡ tweak_bytes other_host → user ≡ other

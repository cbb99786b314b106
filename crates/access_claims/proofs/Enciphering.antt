-- The field keeps its laws; each way of a unit undoes the other; tweak numbers of 64 bits have different bytes, which are their blocks; and a volume's sectors have
-- different ones. Assumes nothing.
use Prim.Native.Nat.{ℕ, ◌*◌, ◌^◌, ◌<◌}
use native.Mathlib.Omega.{arith}
use mathlib.Core.{Path.{◌≡◌, refl, sym, ap, ◌∙◌}, Bool.cond, List.List}
use lib.{Bits.bit_xor, Dec.leb, ListN.take}
use Rattle.bits.proofs.TestLaws.{same_below}
use Rattle.aes_tables.specs.Field.{times_x, where_set, product_of, product, squares, inverse}
use Rattle.aes_mixing.proofs.FieldLaws.{product_1, product_sum}
use Rattle.numbers.specs.Numbers.{little_endian}
use Rattle.numbers.proofs.WrittenLaws.{little_endian_bytes_pad}
use Rattle.aes.specs.declared.Direction.TheVariants.{Encipher, Decipher}
use Rattle.layout.specs.declared.Layout.{Layout}
use Rattle.judgement.specs.Offsets.{extent_start}
use Rattle.sector_map.specs.SectorMap.{first_sector, host_sector}
use Rattle.tweaks.specs.Tweaks.{tweak_number, block_of, tweak_of}
use Rattle.xts.specs.Units.{tweak_bytes}
use Rattle.xts.proofs.UnitLaws.{length_converted}
use Rattle.field_laws.proofs.{InverseLaws.product_inverse, SBoxLaws.{restored_substituted, substituted_restored}}
use Rattle.cipher_laws.proofs.UnitLaws.{deciphered_enciphered, enciphered_deciphered}
use Rattle.access_claims.specs.Enciphering.{KeepsField, EnciphersExactly, SpellsTweaks, TweaksSectors}
use Rattle.header_claims.specs.SectorMap.{Sound}
use Rattle.header_claims.proofs.BlockLaws.{block_of_number}
use Rattle.header_claims.proofs.MapLaws.{number_says, host_sector_answers, host_sector_in_area}
use Rattle.std.specs.Prelude.{Ok}

-- a doubling, at every byte
doubles : (a : ℕ) → a < 256 → product 2 a ≡ cond (leb 128 a) (bit_xor (a * 2) 0x11B) (a * 2)
unfolding product product_of where_set times_x
doubles = same_below (product 2) (λ a. cond (leb 128 a) (bit_xor (a * 2) 0x11B) (a * 2)) 256 tt

pub keeps_field : KeepsField
unfolding inverse squares product product_of where_set times_x
keeps_field =
    record {
      sums = product_sum;
      one = product_1;
      doubles = doubles;
      inverses = product_inverse;
      zero_inverse = refl;
      restores = restored_substituted;
      substitutes = substituted_restored;
    }

pub enciphers_exactly : (key : List ℕ) (number : ℕ) (unit : List ℕ) → EnciphersExactly key number unit
enciphers_exactly key number unit =
    record {
      there_and_back = λ k u. deciphered_enciphered key number unit k.each u.sized u.each;
      back_and_there = λ k u. enciphered_deciphered key number unit k.each u.sized u.each;
      enciphered_sized = length_converted Encipher key number unit;
      deciphered_sized = length_converted Decipher key number unit;
    }

tweak_block : (number : ℕ) → number < 2 ^ 64 → tweak_bytes number ≡ block_of (Ok number)
unfolding tweak_bytes block_of
tweak_block number small = little_endian_bytes_pad 8 8 number small

tweak_spells : (number : ℕ) → number < 2 ^ 64 → little_endian (take 8 (tweak_bytes number)) ≡ number
tweak_spells number small = ap (λ (bytes : List ℕ). little_endian (take 8 bytes)) (tweak_block number small) ∙ (block_of_number number small).spells

pub spells_tweaks : (number other : ℕ) → SpellsTweaks number other
spells_tweaks number other =
    record {
      block = tweak_block number;
      different = λ small other_small e.
          sym (tweak_spells number small) ∙ ap (λ (bytes : List ℕ). little_endian (take 8 bytes)) e ∙ tweak_spells other other_small;
    }

-- a volume's host sectors have numbers of 64 bits
host_small : (layout : Layout) → Sound layout → (user host : ℕ) → host_sector layout user ≡ Ok host → host < 2 ^ 64
host_small layout s user host e = omega (arith, host_sector_in_area layout s user host e)

pub tweaks_sectors : (layout : Layout) → TweaksSectors layout
unfolding first_sector tweak_of tweak_number extent_start
tweaks_sectors layout =
    record {
      is_host = λ s user host e. (number_says (host_sector_answers layout s user) e).1;
      is_place = λ s user host e. omega (arith, (number_says (host_sector_answers layout s user) e).1);
      is_block = λ s user host e. rw e (tweak_block host (host_small layout s user host e));
      different = λ s user other host other_host e f same.
          let alike = (spells_tweaks host other_host).different (host_small layout s user host e) (host_small layout s other other_host f) same in
          omega (arith, number_says (host_sector_answers layout s user) e, number_says (host_sector_answers layout s other) f);
    }

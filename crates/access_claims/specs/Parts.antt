-- What views, reads and writes are made of, each by itself: an acceptance, the soundness of what is protected, its user sectors, a pair of
-- layouts, an extent of whole sectors, the lock after a write, an extent's first byte, and the copy. The definitions are those that the
-- contracts of `protection`, `judgement` and `copy` cite. Assumes nothing.
use Rattle.std.specs.Prelude.{ℕ, ◌+◌, ◌*◌, ◌<◌, ◌≤◌, length, take, drop, Ok, ⊤}
use mathlib.Core.{Path.◌≡◌, Logic.◌↔◌, Bool.{Bool, true, false}, List.{List, ◌++◌}}
use Rattle.judgement.specs.Judging.{alignment_rule}
use Rattle.judgement.specs.Offsets.{placed_by}
use Rattle.answers.specs.Answers.{is_accepted, locked_after, Answer, refuse, refuse_at, refusal_number}
use Rattle.copy.specs.Copy.{copied}
use Rattle.layout.specs.declared.Layout.{Layout}
use Rattle.protection.specs.Protection.{sound_protection, protected_extent}
use Rattle.pairing.specs.Pairs.{paired}
use Rattle.sector_map.specs.SectorMap.{host_sector}
use Rattle.access_claims.specs.{Extents.Within, ReferenceModel.{in_range, lock_left}}
use Rattle.header_claims.specs.{Header.Multiple, SectorMap.{Sound, InArea}}
use Rattle.access_claims.specs.Views.{area, SoundRange, Nested}
use Rattle.protection.specs.Protection.{Protection}

-- the claim, for any two layouts and any protection
pub record KeepsParts (layout hidden_layout : Layout) (protection : Protection) : Type 0 where
  -- an acceptance is one, and no refusal is
  pub acceptance : is_accepted {T = ⊤} (Ok tt) ≡ true
  pub no_acceptance : (number : ℕ) → is_accepted {T = ⊤} (refuse number) ≡ false
  pub no_acceptance_at : (number sector : ℕ) → is_accepted {T = ⊤} (refuse_at number sector) ≡ false
  -- sound exactly where the layout is and its protected range
  pub soundness : (sound_protection layout protection ≡ true) ↔ (Sound layout × SoundRange layout protection)
  -- a user sector is a protected one exactly where its host sector lies in the range
  pub sectors : Sound layout → SoundRange layout protection → (user host : ℕ) → host_sector layout user ≡ Ok host
      → Within (protected_extent layout protection) user ↔ (in_range protection host ≡ true)
  -- the sectors of a hidden data area as a range are those that its volume's map has
  pub hidden_sectors : Sound hidden_layout → (host : ℕ) → (in_range (area hidden_layout) host ≡ true) ↔ InArea hidden_layout host
  -- a pair: 11 if either is unsound, then 12 unless they nest
  pub pair_nests : Sound layout → Sound hidden_layout → Nested layout hidden_layout → paired layout hidden_layout ≡ Ok tt
  pub pair_unsound : (Sound layout × Sound hidden_layout → ⊥) → paired layout hidden_layout ≡ refuse 11
  pub pair_apart : Sound layout → Sound hidden_layout → (Nested layout hidden_layout → ⊥) → paired layout hidden_layout ≡ refuse 12
  -- an extent is of whole sectors of the disk exactly where the bytes before it in the volume, and its own, are multiples of Z
  pub aligned : Sound layout → (first count : ℕ)
      → (alignment_rule layout first count ≡ true) ↔ (Multiple (first * 512) layout.sector_size × Multiple (count * 512) layout.sector_size)
  -- 18 closes the lock
  pub locks : (locked : Bool) (answer : Answer ⊤) → locked_after locked (refusal_number answer) ≡ lock_left answer locked
  -- an extent's first byte: O and 512 for each user sector before it; a refusal gives none
  pub starts : (first : ℕ) → placed_by (Ok tt) layout first ≡ Ok (layout.data_start + first * 512)
  pub no_start : (first number : ℕ) → placed_by (refuse number) layout first ≡ refuse number
  pub no_start_at : (first number sector : ℕ) → placed_by (refuse_at number sector) layout first ≡ refuse_at number sector
  -- a copy lays its bytes over those from an offset on, however many they are; more than there is room for change nothing
  pub copies : (at : ℕ) (from to : List ℕ) → at + length from ≤ length to → copied at from to ≡ take at to ++ from ++ drop (at + length from) to
  pub copies_nothing : (at : ℕ) (from to : List ℕ) → length to < at + length from → copied at from to ≡ to

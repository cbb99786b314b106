-- At Z 512 each rule is the one of before: an S that keeps its own rule is a multiple of 512, and every number is one of 1.
-- Assumes nothing.
use Prim.Native.Nat.{ℕ, suc, ◌+◌, ◌*◌, ◌%◌, ◌≤◌, ◌<◌}
use native.Mathlib.{Nat.mod-one, Omega.arith}
use mathlib.Core.{Path.{◌≡◌, refl, sym, ap, ◌∙◌}, Bool.{Bool, true, false, ◌&&◌, not, and-true}, List.{List, [], ◌∷◌}}
use lib.{Dec.{leb, eqb}, ListN.length}
use borrow.Author.Tests.{eq-eqb}
use Rattle.answers.proofs.AnswerLaws.{line_holds}
use Rattle.layout.specs.Rules.{standard, hidden, multiple, min_host_size, max_host_size, host_size_rule, sector_size_rule, sectors_rule, data_area_rule, sound}
use Rattle.layout.specs.declared.Layout.{Layout}
use Rattle.layout.proofs.RuleLaws.{and_true_left}
use Rattle.locations.specs.Locations.{location_of}
use Rattle.header.specs.Header.{fields_of, magic_of, area_rule, accepted_layout, judge}
use Rattle.opening.specs.Opening.{candidate_at, judgements, searched, opened}
use Rattle.new_header.specs.NewHeader.{new_fields}
use Rattle.header_writing.specs.HeaderWriting.{header_answer}
use Rattle.protection.specs.Protection.{protection_rule, sound_protection}
use Rattle.pairing.specs.Pairs.{nests, paired}
use Rattle.judgement.specs.Judging.{alignment_rule, blocked_by, end_answer, checked, lock_answer, read_answer, write_answer}
use Rattle.header_claims.specs.{Header.fields_at, Opening.candidate}
use Rattle.guarantees.specs.SameAt512.{data_area_before, sound_before, paired_before, judge_before, judgements_before, opened_before}
use Rattle.guarantees.specs.SameAt512.{header_answer_before, new_fields_before, checked_before, LayoutAt512, SameAt512}
use Rattle.std.specs.Prelude.{Ok, Some, None, Option, ⊤}
use Rattle.answers.specs.Answers.{Answer, refusal_number}
use Rattle.protection.specs.Protection.{Protection}

-- a host's size is a multiple of 512
host_whole : (host_size : ℕ) → host_size_rule host_size ≡ true → eqb (host_size % 512) 0 ≡ true
unfolding host_size_rule
host_whole host_size kept =
    let whole = eqb (host_size % 512) 0 in
    let least = leb min_host_size host_size in
    and_true_left whole least (and_true_left (whole && least) (leb host_size max_host_size) kept)

-- two answers are alike where they are under a rule that is kept, and where it is broken
by_rule : {A : Type 0} (kept : Bool) (x y : A) → (kept ≡ true → x ≡ y) → (kept ≡ false → x ≡ y) → x ≡ y
by_rule true x y f g = f refl
by_rule false x y f g = g refl

-- an answer's number is not 20
abbrev Not20 : Answer ⊤ → Type 0
Not20 answer = refusal_number answer ≡ 20 → ⊥

module _ (layout : Layout) (z : layout.sector_size ≡ 512) where
  data_area_same : host_size_rule layout.host_size ≡ true → data_area_rule layout ≡ data_area_before layout
  unfolding data_area_rule sectors_rule sector_size_rule multiple data_area_before
  data_area_same host =
      let whole = host_whole layout.host_size host in
      let first = leb 512 layout.data_size && eqb (layout.data_size % 512) 0 && eqb (layout.data_start % 512) 0 in
      rw (z, whole, and-true first)

  sectors_same : sector_size_rule layout.sector_size ≡ true
  unfolding sector_size_rule
  sectors_same = rw z

  sound_same : sound layout ≡ sound_before layout
  unfolding sound sound_before
  sound_same = by_rule (host_size_rule layout.host_size) _ _ (λ kept. rw (kept, data_area_same kept)) (λ broken. rw broken)

  writer_same : (code salt_size keys_size header_size : ℕ)
      → header_answer code layout salt_size keys_size header_size ≡ header_answer_before code layout salt_size keys_size header_size
  unfolding header_answer header_answer_before
  writer_same code salt_size keys_size header_size =
      by_rule (host_size_rule layout.host_size) _ _ (λ kept. rw (kept, sectors_same, data_area_same kept)) (λ broken. rw broken)

  written_same : new_fields layout ≡ new_fields_before layout
  unfolding new_fields new_fields_before
  written_same = rw z

  any_aligned : (first count : ℕ) → alignment_rule layout first count ≡ true
  unfolding alignment_rule multiple
  any_aligned first count = rw (z, mod-one first, mod-one count)

  module _ (protection : Protection) (image_size first count buffer_size : ℕ) where
    checked_same : (later : Answer ⊤)
        → checked layout protection image_size first count buffer_size later ≡ checked_before layout protection image_size first count buffer_size later
    unfolding checked sound_protection checked_before
    checked_same later = rw (sound_same, any_aligned first count)

    -- 20 is none of the numbers that are left
    checked_not_20 : (later : Answer ⊤) → Not20 (end_answer layout first count later) → Not20 (checked layout protection image_size first count buffer_size later)
    unfolding checked_before refusal_number
    checked_not_20 later p =
        rw (checked_same later)
        (line_holds Not20 _ (sound_before layout && protection_rule layout protection) _ (λ e. omega (arith, e))
        (line_holds Not20 _ (eqb image_size layout.host_size) _ (λ e. omega (arith, e))
        (line_holds Not20 _ (leb count 128) _ (λ e. omega (arith, e))
        (line_holds Not20 _ (eqb buffer_size (count * 512)) _ (λ e. omega (arith, e)) p))))

  blocked_not_20 : (number : ℕ) (way : Option ℕ) (later : Answer ⊤) → (number ≡ 20 → ⊥) → Not20 later → Not20 (blocked_by number way later)
  unfolding blocked_by refusal_number
  blocked_not_20 number None later f p = p
  blocked_not_20 number (Some sector) later f p = f

  end_not_20 : (first count : ℕ) (later : Answer ⊤) → Not20 later → Not20 (end_answer layout first count later)
  unfolding end_answer
  end_not_20 first count later p = blocked_not_20 16 _ later (λ e. omega (arith, e)) p

  lock_not_20 : (protection : Protection) (locked : Bool) (first count : ℕ) → Not20 (lock_answer layout protection locked first count)
  unfolding lock_answer refusal_number
  lock_not_20 protection locked first count =
      line_holds Not20 _ (not locked) _ (λ e. omega (arith, e)) (blocked_not_20 18 _ (Ok tt) (λ e. omega (arith, e)) (λ e. omega (arith, e)))

  module _ (protection : Protection) (image_size first count buffer_size : ℕ) where
    read_not_20 : Not20 (read_answer layout protection image_size first count buffer_size)
    unfolding read_answer refusal_number
    read_not_20 = checked_not_20 protection image_size first count buffer_size (Ok tt) (end_not_20 first count (Ok tt) (λ e. omega (arith, e)))

    write_not_20 : (locked : Bool) → Not20 (write_answer layout protection locked image_size first count buffer_size)
    unfolding write_answer
    write_not_20 locked =
        checked_not_20 protection image_size first count buffer_size (lock_answer layout protection locked first count)
        (end_not_20 first count _ (lock_not_20 protection locked first count))

pair_same : (outer hidden_layout : Layout) → outer.sector_size ≡ 512 → hidden_layout.sector_size ≡ 512
    → paired outer hidden_layout ≡ paired_before outer hidden_layout
unfolding paired nests paired_before
pair_same outer hidden_layout z y =
    let alike : eqb outer.sector_size hidden_layout.sector_size ≡ true = eq-eqb _ _ (z ∙ sym y) in
    let first = eqb outer.kind standard && eqb hidden_layout.kind hidden && eqb outer.host_size hidden_layout.host_size in
    rw (sound_same outer z, sound_same hidden_layout y, alike, and-true first)

layout_at_512 : (layout : Layout) → layout.sector_size ≡ 512 → LayoutAt512 layout
unfolding read_answer write_answer
layout_at_512 layout z =
    record {
      data_area = data_area_same layout z;
      soundness = sound_same layout z;
      pair = λ hidden_layout. pair_same layout hidden_layout z;
      writer = writer_same layout z;
      written = written_same layout z;
      reads = λ protection image_size first count buffer_size. checked_same layout z protection image_size first count buffer_size (Ok tt);
      writes = λ protection locked image_size first count buffer_size.
          checked_same layout z protection image_size first count buffer_size (lock_answer layout protection locked first count);
      reads_all = read_not_20 layout z;
      writes_all = λ protection locked image_size first count buffer_size. write_not_20 layout z protection image_size first count buffer_size locked;
    }

judge_same : (kind host_size index : ℕ) (h : List ℕ) → host_size_rule host_size ≡ true → (fields_at h).sector_size ≡ 512
    → judge kind host_size index h ≡ judge_before kind host_size index h
unfolding judge area_rule judge_before accepted_layout fields_of sector_size_rule
judge_same kind host_size index h host z =
    let told = accepted_layout kind host_size index (magic_of h) (fields_of h) in
    rw (data_area_same told z host, z)

-- the judgements are alike from an index on
judgements_same : (candidates : List ℕ) (host_size index : ℕ) (codes : List ℕ) → host_size_rule host_size ≡ true
    → ((i : ℕ) → index ≤ i → i < index + length codes → (fields_at (candidate candidates i)).sector_size ≡ 512)
    → judgements candidates host_size index codes ≡ judgements_before candidates host_size index codes
unfolding judgements judgements_before candidate candidate_at
judgements_same candidates host_size index [] host z = refl
judgements_same candidates host_size index (code ∷ codes) host z =
    rw (judge_same (location_of code).kind host_size index (candidate_at index candidates) host (z index (omega arith) (omega arith)))
    (ap (λ (rest : List (Answer Layout)). judge_before (location_of code).kind host_size index (candidate_at index candidates) ∷ rest)
    (judgements_same candidates host_size (suc index) codes host λ i from inside. z i (omega arith) (omega arith)))

opened_same : (candidates codes : List ℕ) (host_size : ℕ) → ((i : ℕ) → i < length codes → (fields_at (candidate candidates i)).sector_size ≡ 512)
    → opened candidates codes host_size ≡ opened_before candidates codes host_size
unfolding opened searched opened_before
opened_same candidates codes host_size z =
    by_rule (host_size_rule host_size) _ _
    (λ kept. rw (kept, judgements_same candidates host_size 0 codes kept (λ i from inside. z i (omega arith))))
    (λ broken. rw broken)

pub same_at_512 : SameAt512
unfolding sector_size_rule
same_at_512 = record { sector_size = λ size z. rw z; layouts = layout_at_512; header = judge_same; opens = opened_same }

-- The rules are met exactly where they hold, one candidate is judged by them, and the key bytes are the accepted candidate's.
-- Assumes nothing.
use Prim.Native.Nat.{ℕ, ◌+◌, ◌≤◌, ◌<◌}
use native.Mathlib.Omega.{arith}
use mathlib.Core.{Path.{◌≡◌, refl, sym, ap, ◌∙◌}, Logic.{◌⊎◌, inl, inr, ⊎_elim, ◌↔◌}, Bool.{Bool, true}, List.{List, ◌++◌}}
use lib.{ListN.{length, drop, length-append}, Seq.{drop_at, drop-drop}}
use borrow.Author.Tests.{ne_eqb}
use Rattle.layout.specs.declared.Layout.{Layout}
use Rattle.header.specs.Header.{magic_of, fields_of, checksums_match, is_header, reserved_rule, judge}
use Rattle.header_format.specs.Format.{version_rule}
use Rattle.key_bytes.specs.KeyBytes.{keys_offset, keys_size}
use Rattle.header_claims.specs.Header.{vera_letters, true_letters, IsHeader, Line, number, Keeps, FirstBroken, Tells}
use Rattle.header_claims.specs.Judging.{KeepsRules, JudgesExactly, GivesKeys}
use Rattle.header_claims.proofs.Reflects.{Reflects, holds, fails, is_false, true_exactly, reflects_map, reflects_and, reflects_eqb, reflects_leb}
use Rattle.header_claims.proofs.RuleReflections.{multiple_reflects, sector_size_reflects, host_size_reflects}
use Rattle.header_claims.proofs.SoundLaws.{sound_reflects, data_area_rule_reflects}
use Rattle.header_claims.proofs.HeaderLaws.{MagicIs, spells_vera, spells_true, spells_neither, magic_number_says, is_header_reflects}
use Rattle.header_claims.proofs.LineLaws.{four_or_five}
use Rattle.header_claims.proofs.ToldLaws.{Told, layout_tells}
use Rattle.header_claims.proofs.JudgementLaws.{Judgement, accepts, refuses, refuses4, judge_says}
use Rattle.std.specs.Prelude.{Ok}
use Rattle.answers.specs.Answers.{Answer, refuse}

-- what each number of a magic says, both ways
module _ {bytes : List ℕ} where
  vera_exactly : {magic : ℕ} → MagicIs bytes magic → (magic ≡ 0) ↔ (bytes ≡ vera_letters)
  vera_exactly (spells_vera v g) = (λ e. v, λ u. refl)
  vera_exactly (spells_true t f) = (λ e. absurd (omega arith), λ u. absurd (f u))
  vera_exactly (spells_neither f) = (λ e. absurd (omega arith), λ u. absurd (f (inl u)))

  true_exactly_spelt : {magic : ℕ} → MagicIs bytes magic → (magic ≡ 1) ↔ (bytes ≡ true_letters)
  true_exactly_spelt (spells_vera v g) = (λ e. absurd (omega arith), λ u. absurd (g u))
  true_exactly_spelt (spells_true t f) = (λ e. t, λ u. refl)
  true_exactly_spelt (spells_neither f) = (λ e. absurd (omega arith), λ u. absurd (f (inr u)))

  neither_told : {magic : ℕ} → MagicIs bytes magic → ((bytes ≡ vera_letters) ⊎ (bytes ≡ true_letters) → ⊥) → magic ≡ 2
  neither_told (spells_vera v g) f = absurd (f (inl v))
  neither_told (spells_true t g) f = absurd (f (inr t))
  neither_told (spells_neither g) f = refl

vera_versions_lem : (told : ℕ) → (version_rule 0 told ≡ true) ↔ ((2 ≤ told) × (told ≤ 5))
unfolding version_rule
vera_versions_lem told = true_exactly (reflects_map (λ p. (p.1, p.0)) (λ q. (q.1, q.0)) (reflects_and (reflects_leb told 5) (reflects_leb 2 told)))

true_versions_lem : (magic told : ℕ) → (magic ≡ 0 → ⊥) → (version_rule magic told ≡ true) ↔ ((told ≡ 4) ⊎ (told ≡ 5))
unfolding version_rule
true_versions_lem magic told f =
    rw (ne_eqb magic 0 f)
    (true_exactly
    (reflects_map (λ p. four_or_five told p.1 p.0) (λ q. ⊎_elim (λ e. omega arith) (λ e. omega arith) q)
    (reflects_and (reflects_leb told 5) (reflects_leb 4 told))))

pub keeps_rules : KeepsRules
keeps_rules =
    record {
      standard_kind = refl;
      hidden_kind = refl;
      vera_magics = λ bytes. vera_exactly (magic_number_says bytes);
      true_magics = λ bytes. true_exactly_spelt (magic_number_says bytes);
      other_magics = λ bytes f. neither_told (magic_number_says bytes) f;
      vera_versions = vera_versions_lem;
      true_versions = true_versions_lem;
      multiples = λ count of. true_exactly (multiple_reflects count of);
      host_sizes = λ host_size. true_exactly (host_size_reflects host_size);
      sector_sizes = λ size. true_exactly (sector_size_reflects size);
      data_areas = λ layout. true_exactly (data_area_rule_reflects layout);
      layouts = λ layout. true_exactly (sound_reflects layout);
    }

-- of lists that are the same from 64 on, what stands later is the same
same_behind : (h other : List ℕ) → drop 64 h ≡ drop 64 other → (k : ℕ) → drop (64 + k) h ≡ drop (64 + k) other
same_behind h other same k = sym (drop-drop k 64 h) ∙ ap (drop k) same ∙ drop-drop k 64 other

module _ (kind host_size index : ℕ) where
  -- a candidate is judged by its length and its bytes from 64 on
  judge_same : (h other : List ℕ) → length h ≡ length other → drop 64 h ≡ drop 64 other
      → judge kind host_size index h ≡ judge kind host_size index other
  unfolding judge is_header magic_of fields_of checksums_match reserved_rule
  judge_same h other size same =
      let at : (k : ℕ) → drop (64 + k) h ≡ drop (64 + k) other = same_behind h other same in
      rw (size, same, at 4, at 6, at 8, at 12, at 28, at 36, at 44, at 52, at 60, at 64, at 68, at 188, at 192)

  any_salt_lem : (salt other rest : List ℕ) → length salt ≡ 64 → length other ≡ 64
      → judge kind host_size index (salt ++ rest) ≡ judge kind host_size index (other ++ rest)
  any_salt_lem salt other rest e f =
      judge_same (salt ++ rest) (other ++ rest) (omega (arith, length-append salt rest, length-append other rest))
      (drop_at salt rest 64 e ∙ sym (drop_at other rest 64 f))

  module _ (h : List ℕ) where
    -- fewer or more bytes are no header
    other_length : (length h ≡ 512 → ⊥) → judge kind host_size index h ≡ refuse 4
    unfolding judge is_header
    other_length f = simp (ne_eqb (length h) 512 f)

    is_not_header : length h ≡ 512 → (IsHeader h → ⊥) → judge kind host_size index h ≡ refuse 4
    unfolding judge
    is_not_header size f = rw (is_false (is_header_reflects h size) f)

    no_header : (IsHeader h → ⊥) → judge kind host_size index h ≡ refuse 4
    no_header f = go (reflects_eqb (length h) 512)
      where
        go : {b : Bool} → Reflects (length h ≡ 512) b → judge kind host_size index h ≡ refuse 4
        go (holds size) = is_not_header size f
        go (fails g) = other_length g

    not-before : {i j : ℕ} → (i < j → ⊥) → (j < i → ⊥) → i ≡ j
    not-before f g = omega arith

    by_line : {o : Answer Layout} → Judgement kind host_size index h o → IsHeader h → (line : Line) → FirstBroken line kind host_size h → o ≡ refuse (number line)
    by_line (accepts r keeps) s line b = absurd (b.broken (keeps line))
    by_line (refuses r other c) s line b =
        ap refuse (not-before (λ lt. c.broken (b.earlier other lt)) (λ lt. b.broken (c.earlier line lt)))
    by_line (refuses4 f) s line b = absurd (f s)

    by_all : {o : Answer Layout} → Judgement kind host_size index h o → IsHeader h → ((line : Line) → Keeps line kind host_size h)
        → (layout : Layout) × (o ≡ Ok layout) × Tells kind host_size index h layout
    by_all (accepts r keeps) s k = (Told kind host_size index h, refl, layout_tells kind host_size index h)
    by_all (refuses r line b) s k = absurd (b.broken (k line))
    by_all (refuses4 f) s k = absurd (f s)

    pub judges_exactly : JudgesExactly kind host_size index h
    judges_exactly =
        record {
          other_length = other_length;
          no_header = no_header;
          breaks = λ size r line b. by_line (judge_says kind host_size index h size) r line b;
          accepts = λ size r keeps. by_all (judge_says kind host_size index h size) r keeps;
          any_salt = any_salt_lem;
        }

pub gives_keys : (candidates : List ℕ) (borrowed : ℕ × ℕ) (keys : List ℕ) (returned : ℕ × ℕ) → GivesKeys candidates borrowed keys returned
unfolding keys_offset keys_size
gives_keys candidates borrowed keys returned =
    record {
      content = λ layout post. post.content;
      address = λ layout post. post.address;
      no_content = λ refusal post. post.content;
      start_address = λ refusal post. post.address;
    }

-- What the layout of a header tells, and that two layouts which tell the same header have the same data area.
-- Assumes nothing.
use Prim.Native.Nat.{ℕ, ◌*◌}
use native.Mathlib.Omega.{arith}
use mathlib.Core.{Path.{◌≡◌, refl, sym, ap, ◌∙◌}, Logic.{inl, inr}, List.List}
use Rattle.layout.specs.declared.Layout.{Layout}
use Rattle.header.specs.Header.{magic_of, fields_of, accepted_layout}
use Rattle.header_claims.specs.Header.{vera_letters, true_letters, Multiple, Tells, DataArea}
use Rattle.header_claims.proofs.HeaderLaws.{MagicIs, spells_vera, spells_true, spells_neither, magic_of_says}

-- what the candidate tells where it is accepted
abbrev pub Told : ℕ → ℕ → ℕ → List ℕ → Layout
Told kind host_size index h = accepted_layout kind host_size index (magic_of h) (fields_of h)

vera_told_lem : {bytes : List ℕ} {magic : ℕ} → MagicIs bytes magic → bytes ≡ vera_letters → magic ≡ 0
vera_told_lem (spells_vera v g) u = refl
vera_told_lem (spells_true t f) u = absurd (f u)
vera_told_lem (spells_neither f) u = absurd (f (inl u))

true_told_lem : {bytes : List ℕ} {magic : ℕ} → MagicIs bytes magic → bytes ≡ true_letters → magic ≡ 1
true_told_lem (spells_vera v g) u = absurd (g u)
true_told_lem (spells_true t f) u = refl
true_told_lem (spells_neither f) u = absurd (f (inr u))

pub layout_tells : (kind host_size index : ℕ) (h : List ℕ) → Tells kind host_size index h (Told kind host_size index h)
unfolding accepted_layout fields_of
layout_tells kind host_size index h =
    record {
      host_size_told = refl;
      kind_told = refl;
      vera_told = vera_told_lem (magic_of_says h);
      true_told = true_told_lem (magic_of_says h);
      version_told = refl;
      min_program_version_told = refl;
      start_told = refl;
      size_told = refl;
      candidate_told = refl;
      sector_size_told = refl;
    }

-- multiples of the same
same_multiple : {number other of unit : ℕ} → number ≡ other → of ≡ unit → Multiple number of → Multiple other unit
same_multiple e f m = (m.0, sym e ∙ m.1 ∙ ap (λ (z : ℕ). m.0 * z) f)

pub tells_area : {kind host_size index other encrypted_size : ℕ} {h : List ℕ} {a b : Layout}
    → Tells kind host_size index h a → Tells kind host_size other h b → DataArea a encrypted_size → DataArea b encrypted_size
tells_area s t area =
    let sectors = s.sector_size_told ∙ sym t.sector_size_told in
    record {
      at_least = omega (arith, area.at_least, s.size_told, t.size_told);
      size_multiple = same_multiple (s.size_told ∙ sym t.size_told) sectors area.size_multiple;
      start_multiple = same_multiple (s.start_told ∙ sym t.start_told) sectors area.start_multiple;
      host_multiple = same_multiple (s.host_size_told ∙ sym t.host_size_told) sectors area.host_multiple;
      encrypted = omega (arith, area.encrypted, s.size_told, t.size_told);
      standard_start = λ e. omega (arith, area.standard_start (s.kind_told ∙ sym t.kind_told ∙ e), s.start_told, t.start_told);
      hidden_start = λ e. omega (arith, area.hidden_start (s.kind_told ∙ sym t.kind_told ∙ e), s.start_told, t.start_told);
      fits = omega (arith, area.fits, s.start_told, t.start_told, s.size_told, t.size_told, s.host_size_told, t.host_size_told);
    }

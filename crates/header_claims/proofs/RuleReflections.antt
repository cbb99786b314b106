-- The tests before any candidate, of the lengths, the codes and the host's size, and those of a multiple, of a sector size and of a new
-- header's lengths, reflect what the guarantees say of them.
-- Assumes nothing.
use Prim.Native.Nat.{ℕ, ◌+◌, ◌*◌, ◌/◌, ◌%◌, ◌^◌, ◌≤◌}
use native.Mathlib.Nat.{add-zero, div-add-mod', mul-mod_left}
use mathlib.Core.{Path.{◌≡◌, sym, ap, ◌∙◌}, List.{List, [], ◌∷◌}}
use lib.ListN.{length}
use Rattle.layout.specs.Rules.{multiple, host_size_rule, sector_size_rule}
use Rattle.locations.specs.Locations.{code_rule}
use Rattle.header_format.specs.Format.{new_lengths_rule}
use Rattle.opening.specs.Opening.{lengths_rule, codes_rule}
use Rattle.header_claims.specs.{Header.{Multiple, SectorSize}, Opening.{Lengths, Codes, HostSize}}
use Rattle.header_claims.proofs.Reflects.{Reflects, reflects_map, reflects_and, reflects_or, reflects_eqb, reflects_leb}
use Rattle.header_claims.proofs.Reflects.{reflects_nil, reflects_cons}

pub lengths_reflects : (candidates codes : List ℕ) → Reflects (Lengths candidates codes) (lengths_rule candidates codes)
unfolding lengths_rule
lengths_reflects candidates codes =
    reflects_map (λ p. record { some = p.0.0; most = p.0.1; whole = p.1 }) (λ r. ((r.some, r.most), r.whole))
    (reflects_and (reflects_and (reflects_leb 1 (length codes)) (reflects_leb (length codes) 64)) (reflects_eqb (length candidates) (length codes * 512)))

pub new_lengths_reflects : (salt_size keys_size header_size : ℕ)
    → Reflects ((salt_size ≡ 64) × ((keys_size ≡ 256) × (header_size ≡ 512))) (new_lengths_rule salt_size keys_size header_size)
unfolding new_lengths_rule
new_lengths_reflects salt_size keys_size header_size =
    reflects_map (λ p. (p.0.0, (p.0.1, p.1))) (λ q. ((q.0, q.1.0), q.1.1))
    (reflects_and (reflects_and (reflects_eqb salt_size 64) (reflects_eqb keys_size 256)) (reflects_eqb header_size 512))

pub code_reflects : (code : ℕ) → Reflects (code ≤ 3) (code_rule code)
unfolding code_rule
code_reflects code = reflects_leb code 3

pub codes_reflects : (codes : List ℕ) → Reflects (Codes codes) (codes_rule codes)
unfolding Codes codes_rule
codes_reflects [] = reflects_nil (λ code. code ≤ 3)
codes_reflects (code ∷ codes) = reflects_cons (λ c. c ≤ 3) code codes (code_reflects code) (codes_reflects codes)

pub multiple_reflects : (number of : ℕ) → Reflects (Multiple number of) (multiple number of)
unfolding multiple
multiple_reflects number of =
    reflects_map (λ e. (number / of, sym (div-add-mod' number of) ∙ ap (λ (rest : ℕ). number / of * of + rest) e ∙ add-zero (number / of * of)))
    (λ m. ap (λ (n : ℕ). n % of) m.1 ∙ mul-mod_left m.0 of) (reflects_eqb (number % of) 0)

pub sector_size_reflects : (size : ℕ) → Reflects (SectorSize size) (sector_size_rule size)
unfolding sector_size_rule
sector_size_reflects size =
    reflects_or (reflects_eqb size 512) (reflects_or (reflects_eqb size 1024) (reflects_or (reflects_eqb size 2048) (reflects_eqb size 4096)))

pub host_size_reflects : (host_size : ℕ) → Reflects (HostSize host_size) (host_size_rule host_size)
unfolding host_size_rule
host_size_reflects host_size =
    reflects_map (λ p. record { multiple = p.0.0; least = p.0.1; most = p.1 }) (λ r. ((r.multiple, r.least), r.most))
    (reflects_and (reflects_and (reflects_eqb (host_size % 512) 0) (reflects_leb 262656 host_size)) (reflects_leb host_size (2 ^ 50)))

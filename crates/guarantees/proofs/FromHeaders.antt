-- Two headers that open and nest give views for which demand 3 holds. Assumes nothing.
use Prim.Native.Nat.{ℕ, zero, suc, ◌<◌}
use native.Mathlib.Omega.{arith}
use mathlib.Core.{Path.{◌≡◌, sym, ◌∙◌, subst}, List.{List, [], ◌∷◌}}
use lib.{ListN.length, Seq.take_all}
use Rattle.layout.specs.declared.Layout.{Layout}
use Rattle.opening.specs.Opening.{opened}
use Rattle.guarantees.specs.FromHeaders.{HasArea, FromHeaders}
use Rattle.header_claims.specs.Header.{Tells}
use Rattle.header_claims.specs.Opening.{candidate, kind_of, TellsAt}
use Rattle.access_claims.specs.Views.{Nested}
use Rattle.guarantees.proofs.Interleaving.{demand_3}
use Rattle.header_claims.proofs.Opening.{opens_exactly_when}
use Rattle.header_claims.proofs.SectorMap.{opened_sound_lem}
use Rattle.access_claims.proofs.Views.{makes_views}
use Rattle.std.specs.Prelude.{Ok}

-- of one candidate, the first is all of it
one_candidate : (h : List ℕ) → length h ≡ 512 → candidate h 0 ≡ h
unfolding candidate
one_candidate h size = take_all 512 h (omega arith)

-- what an opened header tells, whose index can only be 0
header_tells : (h : List ℕ) (code host_size : ℕ) (layout : Layout) → opened h (code ∷ []) host_size ≡ Ok layout
    → Tells (kind_of code) host_size 0 h layout
header_tells h code host_size layout e =
    let says = (opens_exactly_when h (code ∷ []) host_size).only_accepts layout e in
    let whole : length h ≡ 512 = omega (arith, says.0.lengths.whole) in
    go says.1.0 says.1.1.accepted.inside says.1.2 whole
  where
    go : (i : ℕ) → i < 1 → TellsAt h (code ∷ []) host_size i layout → length h ≡ 512 → Tells (kind_of code) host_size 0 h layout
    go zero lt told whole = subst (λ (header : List ℕ). Tells (kind_of code) host_size 0 header layout) (one_candidate h whole) told
    go (suc i) lt told whole = absurd (omega arith)

has_area : {kind host_size : ℕ} {h : List ℕ} {layout : Layout} → Tells kind host_size 0 h layout → HasArea host_size h layout
has_area told = record { host = told.host_size_told; start = told.start_told; size = told.size_told }

pub from_headers_lem : (outer_header hidden_header : List ℕ) (outer_code hidden_code host_size : ℕ)
    → FromHeaders outer_header hidden_header outer_code hidden_code host_size
from_headers_lem outer_header hidden_header outer_code hidden_code host_size =
    record {
      holds = λ outer_layout hidden_layout e f nest.
          let outer = header_tells outer_header outer_code host_size outer_layout e in
          let hidden = header_tells hidden_header hidden_code host_size hidden_layout f in
          let outer_sound = opened_sound_lem outer_header (outer_code ∷ []) host_size outer_layout e in
          let hidden_sound = opened_sound_lem hidden_header (hidden_code ∷ []) host_size hidden_layout f in
          let nested : Nested outer_layout hidden_layout =
          record {
            first_standard = outer.kind_told ∙ nest.first_standard;
            second_hidden = hidden.kind_told ∙ nest.second_hidden;
            same_host = outer.host_size_told ∙ sym hidden.host_size_told;
            same_sectors = outer.sector_size_told ∙ nest.same_sectors ∙ sym hidden.sector_size_told;
            starts = omega (arith, outer.start_told, hidden.start_told, nest.starts);
            ends = omega (arith, outer.start_told, hidden.start_told, outer.size_told, hidden.size_told, nest.ends);
          } in
          record {
            outer_area = has_area outer;
            hidden_area = has_area hidden;
            outer_view = (makes_views outer_layout hidden_layout).guarded_made outer_sound hidden_sound nested;
            hidden_view = (makes_views hidden_layout hidden_layout).plain_made hidden_sound;
            demand3 = λ outer_key hidden_key. (demand_3 outer_layout hidden_layout outer_key hidden_key).holds outer_sound hidden_sound nested;
          };
    }

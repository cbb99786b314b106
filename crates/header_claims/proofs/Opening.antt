-- A volume opens exactly when some candidate header meets the rules, and the headers are where RULES.md, Header locations, has them.
-- Assumes nothing.
use Prim.Native.Nat.{ℕ, ◌≤◌}
use native.Mathlib.Omega.{arith}
use mathlib.Core.{Path.◌≡◌, Bool.Bool, List.List}
use lib.ListN.{length}
use Rattle.layout.specs.declared.Layout.{Layout}
use Rattle.locations.specs.Locations.{locations, location_of, offset_from, located}
use Rattle.opening.specs.Opening.{searched, opened}
use Rattle.answers.specs.Answers.{line, Answer, refuse}
use Rattle.header_claims.specs.Opening.{Lengths, Codes, HostSize, Allowed, OpensExactlyWhen, LocatesHeaders}
use Rattle.header_claims.proofs.Reflects.{Reflects, holds, fails, is_true, is_false}
use Rattle.header_claims.proofs.RuleReflections.{lengths_reflects, code_reflects, codes_reflects, host_size_reflects}
use Rattle.header_claims.proofs.FirstAcceptedLaws.{Found, search_says}
use Rattle.header_claims.proofs.FoundLaws.{refused_is_not_accepted, found_accepts, found_only_accepts, found_refuses, found_refuses4, found_one}
use Rattle.std.specs.Prelude.{Ok}

module _ (candidates codes : List ℕ) (host_size : ℕ) where
  -- what opening gives where the tests before any candidate pass
  opened_says : Allowed candidates codes host_size → Found candidates codes host_size (length codes) (opened candidates codes host_size)
  unfolding opened
  opened_says a =
      simp (
        is_true (lengths_reflects candidates codes) a.lengths,
        is_true (codes_reflects codes) a.codes_known,
        is_true (host_size_reflects host_size) a.size,
      )
      (search_says candidates codes host_size a)

  -- .. and where it accepts they pass
  allowed_by : {layout : Layout} {a b c : Bool} (answer : Answer Layout) → Reflects (Lengths candidates codes) a → Reflects (Codes codes) b
      → Reflects (HostSize host_size) c → line (refuse 1) a (line (refuse 2) b (line (refuse 3) c answer)) ≡ Ok layout
      → Allowed candidates codes host_size
  allowed_by answer (holds l) (holds k) (holds s) e = record { lengths = l; codes_known = k; size = s }
  allowed_by answer (holds l) (holds k) (fails f) e = absurd (refused_is_not_accepted e)
  allowed_by answer (holds l) (fails f) t e = absurd (refused_is_not_accepted e)
  allowed_by answer (fails f) r t e = absurd (refused_is_not_accepted e)

  pub opened_allowed : (layout : Layout) → opened candidates codes host_size ≡ Ok layout → Allowed candidates codes host_size
  unfolding opened
  opened_allowed layout =
      allowed_by (searched candidates host_size codes) (lengths_reflects candidates codes) (codes_reflects codes)
      (host_size_reflects host_size)

pub opens_exactly_when : (candidates codes : List ℕ) (host_size : ℕ) → OpensExactlyWhen candidates codes host_size
unfolding opened
opens_exactly_when candidates codes host_size =
    let says = opened_says candidates codes host_size in
    let lengths = lengths_reflects candidates codes in
    let known = codes_reflects codes in
    record {
      refuses1 = λ f. simp (is_false lengths f);
      refuses2 = λ l f. simp (is_true lengths l, is_false known f);
      refuses3 = λ l k f. simp (is_true lengths l, is_true known k, is_false (host_size_reflects host_size) f);
      accepts = λ a. found_accepts candidates codes host_size (says a);
      only_accepts = λ layout e.
          let a = opened_allowed candidates codes host_size layout e in
          (a, found_only_accepts candidates codes host_size (says a) layout e);
      refuses_by_header = λ a. found_refuses candidates codes host_size (says a);
      refuses4 = λ a. found_refuses4 candidates codes host_size (says a);
      one_holds = λ a. found_one candidates codes host_size (says a);
    }

located_at : (code host_size : ℕ) → code ≤ 3 → HostSize host_size
    → located code host_size ≡ Ok (offset_from (location_of code).origin host_size (location_of code).distance)
unfolding located
located_at code host_size known size = simp (is_true (code_reflects code) known, is_true (host_size_reflects host_size) size)

pub locates_headers : (host_size : ℕ) → LocatesHeaders host_size
unfolding located location_of locations offset_from
locates_headers host_size =
    record {
      main = located_at 0 host_size (omega arith);
      hidden_main = located_at 1 host_size (omega arith);
      backup = located_at 2 host_size (omega arith);
      hidden_backup = located_at 3 host_size (omega arith);
      unknown_code = λ code h. simp (is_false (code_reflects code) (omega arith));
      unknown_size = λ code h f. simp (is_true (code_reflects code) h, is_false (host_size_reflects host_size) f);
    }

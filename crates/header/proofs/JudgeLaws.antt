-- What an acceptance by `judge` tells: every line is kept, and the layout is the header's.
-- Assumes nothing.
use Prim.Native.Nat.{ℕ}
use mathlib.Core.Path.{◌≡◌, refl, ap}
use mathlib.Core.Bool.{true}
use mathlib.Core.List.{List}
use Rattle.answers.proofs.AnswerLaws.{ByNumber, line_accepted, accepted_one, line_holds}
use Rattle.layout.specs.Rules.{sector_size_rule}
use Rattle.layout.specs.declared.Layout.{Layout}
use Rattle.header.specs.Header.{magic_of, fields_of, is_header, accepted_layout, judge}
use Rattle.header_format.specs.Format.{version_rule}
use Rattle.header.specs.Header.{reserved_rule, flags_rule, hidden_size_rule, area_rule}
use Rattle.std.specs.Prelude.{Ok}
use Rattle.answers.specs.Answers.{refuse}

-- a header that keeps every line, with the layout that it tells
pub record Kept (kind host_size index : ℕ) (h : List ℕ) (layout : Layout) : Type 0 where
  pub header : is_header h ≡ true
  pub version : version_rule (magic_of h) (fields_of h).version ≡ true
  pub reserved : reserved_rule (magic_of h) (fields_of h).flags h ≡ true
  pub flags : flags_rule (fields_of h).flags ≡ true
  pub sector_size : sector_size_rule (fields_of h).sector_size ≡ true
  pub hidden_size : hidden_size_rule kind (fields_of h).hidden_size (fields_of h).data_size ≡ true
  pub data_area : area_rule (accepted_layout kind host_size index (magic_of h) (fields_of h)) (fields_of h).encrypted_size ≡ true
  pub told : accepted_layout kind host_size index (magic_of h) (fields_of h) ≡ layout

pub judge_kept : (kind host_size index : ℕ) (h : List ℕ) (layout : Layout) → judge kind host_size index h ≡ Ok layout → Kept kind host_size index h layout
unfolding judge
judge_kept kind host_size index h layout e =
    let magic = magic_of h in
    let f = fields_of h in
    let past4 = line_accepted 4 (is_header h) _ e in
    let past5 = line_accepted 5 (version_rule magic f.version) _ past4.1 in
    let past6 = line_accepted 6 (reserved_rule magic f.flags h) _ past5.1 in
    let past7 = line_accepted 7 (flags_rule f.flags) _ past6.1 in
    let past8 = line_accepted 8 (sector_size_rule f.sector_size) _ past7.1 in
    let past9 = line_accepted 9 (hidden_size_rule kind f.hidden_size f.data_size) _ past8.1 in
    let told = accepted_layout kind host_size index magic f in
    let past10 = line_accepted 10 (area_rule told f.encrypted_size) _ past9.1 in
    record {
      header = past4.0;
      version = past5.0;
      reserved = past6.0;
      flags = past7.0;
      sector_size = past8.0;
      hidden_size = past9.0;
      data_area = past10.0;
      told = accepted_one told layout past10.1;
    }

-- and no refusal of it names a sector
pub judge_by_number : (kind host_size index : ℕ) (h : List ℕ) → ByNumber (judge kind host_size index h)
unfolding judge
judge_by_number kind host_size index h =
    let magic = magic_of h in
    let f = fields_of h in
    line_holds ByNumber (refuse 4) (is_header h) _ refl
    (line_holds ByNumber (refuse 5) (version_rule magic f.version) _ refl
    (line_holds ByNumber (refuse 6) (reserved_rule magic f.flags h) _ refl
    (line_holds ByNumber (refuse 7) (flags_rule f.flags) _ refl
    (line_holds ByNumber (refuse 8) (sector_size_rule f.sector_size) _ refl
    (line_holds ByNumber (refuse 9) (hidden_size_rule kind f.hidden_size f.data_size) _ refl
    (line_holds ByNumber (refuse 10) (area_rule (accepted_layout kind host_size index magic f) f.encrypted_size) _ refl tt))))))

pub judge_candidate : (kind host_size index : ℕ) (h : List ℕ) (layout : Layout) → judge kind host_size index h ≡ Ok layout → index ≡ layout.candidate
unfolding accepted_layout
judge_candidate kind host_size index h layout e = ap (λ (l : Layout). l.candidate) (judge_kept kind host_size index h layout e).told

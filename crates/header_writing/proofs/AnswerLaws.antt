-- What an answer of the writer tells: where the header is written every rule is kept, the lengths among them. Assumes nothing.
use Prim.Native.Nat.{ℕ}
use mathlib.Core.Path.{◌≡◌}
use mathlib.Core.Bool.{true}
use lib.Dec.{leb}
use Rattle.answers.proofs.AnswerLaws.{line_accepted}
use Rattle.layout.specs.{Rules.{host_size_rule, sector_size_rule, data_area_rule}, declared.Layout.Layout}
use Rattle.locations.specs.Locations.{code_rule}
use Rattle.header_format.specs.Format.{truecrypt, version_rule}
use Rattle.header_format.specs.Format.{new_lengths_rule}
use Rattle.new_header.proofs.LengthLaws.{lengths_right}
use Rattle.header_writing.specs.HeaderWriting.{header_answer}
use Rattle.std.specs.Prelude.{Ok}

module _ (code : ℕ) (layout : Layout) (salt_size keys_size header_size : ℕ) where
  -- every rule is kept
  pub record Passed : Type 0 where
    pub lengths : new_lengths_rule salt_size keys_size header_size ≡ true
    pub known_magic : leb layout.magic truecrypt ≡ true
    pub known_code : code_rule code ≡ true
    pub host : host_size_rule layout.host_size ≡ true
    pub supported : version_rule layout.magic layout.version ≡ true
    pub sectors : sector_size_rule layout.sector_size ≡ true
    pub area : data_area_rule layout ≡ true

  pub done_passed : header_answer code layout salt_size keys_size header_size ≡ Ok tt → Passed
  unfolding header_answer
  done_passed e =
      let p1 = line_accepted 1 (new_lengths_rule salt_size keys_size header_size) _ e in
      let p19 = line_accepted 19 (leb layout.magic truecrypt) _ p1.1 in
      let p2 = line_accepted 2 (code_rule code) _ p19.1 in
      let p3 = line_accepted 3 (host_size_rule layout.host_size) _ p2.1 in
      let p5 = line_accepted 5 (version_rule layout.magic layout.version) _ p3.1 in
      let p8 = line_accepted 8 (sector_size_rule layout.sector_size) _ p5.1 in
      let p10 = line_accepted 10 (data_area_rule layout) _ p8.1 in
      record {
        lengths = p1.0;
        known_magic = p19.0;
        known_code = p2.0;
        host = p3.0;
        supported = p5.0;
        sectors = p8.0;
        area = p10.0;
      }

  pub done_lengths : header_answer code layout salt_size keys_size header_size ≡ Ok tt → (salt_size ≡ 64) × ((keys_size ≡ 256) × (header_size ≡ 512))
  done_lengths e = lengths_right salt_size keys_size header_size (done_passed e).lengths

-- `opening::open` searches past the three tests only.
use mathlib.Core.{Path.{◌≡◌, sym, ◌∙◌}, Bool.true}
use Rattle.opening.specs.Opening.{lengths_rule}
use Rattle.opening.proofs.OpenedLaws.{lengths_most, lengths_whole}
use Rattle.opening.proofs.open.Goals as goal

pub search_in_order-requires : goal.search_in_order-requires
search_in_order-requires c =
    let args = c.args in
    let lengths : lengths_rule args.candidates.now args.codes.now ≡ true = sym c.lengths_agree.ensures ∙ c.if-not-lengths_agree.false in
    record {
      of_one_call = lengths_most args.candidates.now args.codes.now lengths;
      whole_candidates = lengths_whole args.candidates.now args.codes.now lengths;
      codes_kept = sym c.codes_known.ensures ∙ c.if-not-codes_known.false;
    }

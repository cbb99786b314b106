-- The boundary for C and Rust: each number tells its answer, 0 tells an acceptance, numbers stand in order, and what is stored is the answer.
-- Assumes nothing.
use Prim.Native.Nat.{ℕ}
use native.Mathlib.Omega.{arith}
use mathlib.Core.{Path.{◌≡◌, refl, ◌∙◌}, List.List}
use lib.ListN.{length}
use Rattle.answers.specs.Answers.{answer_sector, refusal_number}
use Rattle.key_bytes.specs.KeyBytes.{keys_offset, keys_size}
use Rattle.opening.proofs.OpenedLaws.{opened_inside}
use Rattle.tweaks.specs.Tweaks.{tweak_of, tweak_number}
use Rattle.boundary_numbers.specs.BoundaryNumbers.{layout_numbers, layout_from, protection_numbers, protection_from, view_numbers, view_from}
use Rattle.boundary_answers.specs.BoundaryAnswers.{numbered_left}
use Rattle.boundary_numbers.specs.BoundaryNumbers.{opened_left, viewed_left, block_left}
use Rattle.boundary_keys.specs.BoundaryKeys.{keys_left}
use Rattle.boundary_answers.specs.BoundaryAnswers.{view_left, sector_left}
use Rattle.boundary_extents.specs.BoundaryExtents.{offset_left}
use Rattle.guarantees.specs.Boundary.{TellsNumbers, ReturnsZero, OrdersNumbers, stored_protection, StoresAnswers}
use Rattle.guarantees.proofs.BoundaryNumbers.{view_of_numbers, set_last}
use Rattle.guarantees.proofs.BoundaryZero.{located_zero, opened_zero, header_zero, host_sector_zero, user_sector_zero}
use Rattle.guarantees.proofs.BoundaryZero.{plain_view_zero, protected_view_zero, read_zero, write_zero}
use Rattle.header_claims.proofs.Reflects.{is_false, reflects_eqb}
use Rattle.std.specs.Prelude.{Some, None}
use Rattle.protection.specs.Protection.{Protection}

pub tells_numbers : TellsNumbers
unfolding refusal_number
tells_numbers =
    record {
      opened_accepted = λ layout. refl;
      opened_refused = λ refusal. refl;
      opened_by = λ number. refl;
      numbered_accepted = λ number. refl;
      numbered_refused = λ refusal. refl;
      numbered_by = λ number. refl;
      numbered_at = λ number sector. refl;
      made_accepted = λ view. refl;
      made_refused = λ refusal. refl;
      made_by = λ number. refl;
      done = refl;
      refused = λ refusal. refl;
      refused_by = λ number. refl;
      refused_at = λ number sector. refl;
    }

pub returns_zero : ReturnsZero
unfolding tweak_of tweak_number
returns_zero =
    record {
      locates = located_zero;
      opens = opened_zero;
      headers = header_zero;
      host_sectors = host_sector_zero;
      user_sectors = user_sector_zero;
      tweaks = host_sector_zero;
      plain_views = plain_view_zero;
      protected_views = protected_view_zero;
      reads = λ view image first count buffer filled outcome post. rw post.answers (read_zero view (length image) first count (length buffer));
      writes = λ view image first count buffer written outcome post. rw post.answers (write_zero view (length image) first count (length buffer));
    }

pub orders_numbers : (host kind magic version program start size candidate sectors protected first end lock : ℕ)
    → OrdersNumbers host kind magic version program start size candidate sectors protected first end lock
unfolding layout_from view_from protection_from
orders_numbers host kind magic version program start size candidate sectors protected first end lock = record { layout = refl; view = refl }

protection_stored : (protection : Protection) → protection_numbers protection ≡ stored_protection protection
unfolding protection_numbers
protection_stored None = refl
protection_stored (Some (first, end)) = refl

pub stores_answers : (before : List ℕ) → StoresAnswers before
unfolding numbered_left opened_left keys_left keys_offset keys_size block_left viewed_left view_left offset_left sector_left answer_sector layout_numbers view_numbers
stores_answers before =
    record {
      layout = λ layout. refl;
      no_layout = λ number. refl;
      keys = λ layout. refl;
      keys_inside = λ candidates codes host_size layout e. omega (arith, (opened_inside candidates host_size layout codes e).0);
      no_keys = λ number. refl;
      number = λ number. refl;
      no_number = λ number. refl;
      block = λ sector block. refl;
      no_block = λ number block. refl;
      view = λ view. rw (protection_stored view.protection);
      view_back = view_of_numbers;
      no_view = λ number. refl;
      closes = λ image first count buffer other written left sector h call. call.locks ∙ set_last before 12 1 h;
      same_view = λ image first count buffer other written left sector number f call. call.locks ∙ rw (is_false (reflects_eqb number 18) f);
      offset = λ offset. refl;
      no_offset = λ number. refl;
      sector = λ number sector other after told. told.names;
      no_sector = λ number other after told. told.names;
      accepted_sector = λ other after told. told.names;
    }

-- What calls of the model do: the image keeps its length, each sector is as the last accepted write that covers it left it, or as it
-- began, and an accepted read gives what stands there. Assumes nothing.
use Prim.Native.Nat.{ℕ}
use mathlib.Core.{Path.{◌≡◌, refl, ap, fun_ext, ◌∙◌}, Bool.{Bool, true, false, ◌&&◌, cond}, List.{List, [], ◌∷◌}}
use lib.ListN.{length}
use Rattle.model.specs.Sectors.{sector_at, lay, gather, piece_for}
use Rattle.model.specs.Model.{Rules, State, judged, buffer_after, image_after, sector_after, reply, next, replies, final, contents}
use Rattle.model.proofs.Cases.{test_cases, both_true}
use Rattle.model.proofs.Lawful.{Fitting, Lawful}
use Rattle.model.proofs.LayLaws.{length_lay, sector_lay}

module _ {Call Lock Answer : Type 0} (rules : Rules Call Lock Answer) (lawful : Lawful rules) where
  module _ (call : Call) (model : State Lock) where
    -- an accepted write
    abbrev moves : Bool
    moves = rules.writes call && rules.accepts call (rules.judge call model.held (length model.image))

    abbrev laid : List ℕ
    laid = lay (rules.stored call) (rules.hosts call) (rules.buffer call) model.image

    fits : moves ≡ true → Fitting (length model.image) (rules.hosts call) (rules.buffer call)
    fits e = lawful.fitting call model.held (length model.image) (both_true (rules.writes call) _ e).1

    pub length_next : length (next rules call model).image ≡ length model.image
    unfolding next image_after judged
    length_next =
        test_cases (λ b. length (cond b laid model.image) ≡ length model.image) moves
        (λ e. length_lay (rules.stored call) (lawful.stored_sized call) (rules.hosts call) (rules.buffer call) model.image (fits e))
        (λ e. refl)

    pub sector_next : (host : ℕ)
        → sector_at host (next rules call model).image ≡ sector_after rules host call (judged rules call model) (sector_at host model.image)
    unfolding next image_after judged sector_after
    sector_next host =
        let before = sector_at host model.image in
        let piece = piece_for (rules.stored call) host (rules.hosts call) (rules.buffer call) before in
        test_cases (λ b. sector_at host (cond b laid model.image) ≡ cond b piece before) moves
        (λ e. sector_lay (rules.stored call) (lawful.stored_sized call) host (rules.hosts call) (rules.buffer call) model.image (fits e))
        (λ e. refl)

  pub last_write_lem : (calls : List Call) (model : State Lock) (host : ℕ)
      → sector_at host (final rules calls model).image ≡ contents rules host calls (replies rules calls model) (sector_at host model.image)
  unfolding final replies contents reply
  last_write_lem [] model host = refl
  last_write_lem (call ∷ calls) model host =
      let after = next rules call model in
      last_write_lem calls after host ∙ ap (contents rules host calls (replies rules calls after)) (sector_next call model host)

  -- a read after a list of calls
  pub reads_left_lem : (before : List Call) (call : Call) (model : State Lock) → rules.writes call ≡ false
      → rules.accepts call (reply rules call (final rules before model)).answer ≡ true
      → (reply rules call (final rules before model)).buffer
      ≡ gather (λ host. rules.shown call host (contents rules host before (replies rules before model) (sector_at host model.image))) (rules.hosts call)
  unfolding reply buffer_after
  reads_left_lem before call model is_read accepted =
      rw (is_read, accepted)
      (ap (λ (f : ℕ → List ℕ). gather (λ host. rules.shown call host (f host)) (rules.hosts call)) (fun_ext (λ host. last_write_lem before model host)))

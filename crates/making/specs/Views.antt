-- How a view is made (RULES.md, Views). What the contracts of `plain` and `protected` cite. Assumes nothing.
use Rattle.std.specs.Prelude.{Bool, false, Ok, Err, ⊤, Some, None}
use Rattle.answers.specs.Answers.{line, Answer, refuse}
use Rattle.layout.specs.{Rules.sound, declared.Layout.Layout}
use Rattle.protection.specs.Protection.{area_end}
use Rattle.pairing.specs.Pairs.{paired}
use Rattle.view.specs.declared.View.{View}

-- a layout's view with no protected range
unfoldable pub plain_of : Layout → Bool → View
plain_of layout locked = record { layout = layout; protection = None; locked = locked }

-- an outer layout's view that protects a hidden layout's data area
unfoldable pub protected_of : Layout → Layout → Bool → View
protected_of outer hidden_layout locked =
    record { layout = outer; protection = Some (hidden_layout.data_start, area_end hidden_layout); locked = locked }

-- a sound layout gives a plain view, its lock open
unfoldable pub plain_view : Layout → Answer View
plain_view layout = line (refuse 11) (sound layout) (Ok (plain_of layout false))

-- a view where a pair nests, else its refusal
unfoldable pub made_by : Answer ⊤ → View → Answer View
made_by (Ok done) view = Ok view
made_by (Err refusal) view = Err refusal

-- a pair that can be protected gives a protected view, its lock open
unfoldable pub protected_view : Layout → Layout → Answer View
protected_view outer hidden_layout = made_by (paired outer hidden_layout) (protected_of outer hidden_layout false)

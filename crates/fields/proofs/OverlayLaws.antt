-- Laws of bytes laid over others: the length, nothing laid, one behind the other, a part that was borrowed and filled, and each part as it
-- is afterwards. Assumes nothing.
use Prim.Native.Nat.{ℕ, zero, suc, ◌+◌, ◌-◌, ◌≤◌}
use native.Mathlib.Omega.{arith}
use native.Mathlib.Nat.{add-zero}
use mathlib.Core.{Path.{◌≡◌, refl, sym, ◌∙◌, ap}, List.{List, [], ◌∷◌, ◌++◌, append-nil, append_assoc}}
use lib.ListN.{length, take, drop, length-append, length-take, length-drop, take-append-drop, drop_of_length-le}
use lib.Seq.{take_at, drop_at, drop-append-add, drop-drop, take_all, take-append-le, drop-append-le, take-take}
use borrow.Rule.Slice.PartMut.{put_mid}
use Rattle.fields.specs.Bytes.{part, overlay}

pub overlay_nil : (at : ℕ) (bytes : List ℕ) → overlay at [] bytes ≡ bytes
unfolding overlay
overlay_nil at bytes = rw (append-nil, add-zero) (take-append-drop at bytes)

pub length_overlay : (at : ℕ) (content bytes : List ℕ) → at + length content ≤ length bytes
    → length (overlay at content bytes) ≡ length bytes
unfolding overlay
length_overlay at content bytes fits = simp (length-append, length-take, length-drop) (omega arith)

drop_past : (front rest : List ℕ) (n m : ℕ) → length front ≡ n → drop (n + m) (front ++ rest) ≡ drop m rest
drop_past front rest n m size = rw (← size) (drop-append-add front rest m)

pub overlay_append : (at : ℕ) (a b bytes : List ℕ) → at + length a ≤ length bytes
    → overlay (at + length a) b (overlay at a bytes) ≡ overlay at (a ++ b) bytes
unfolding overlay
overlay_append at a b bytes fits =
    let n = at + length a in
    let front = take at bytes ++ a in
    let size : length front ≡ n = simp (length-append, length-take) (omega arith) in
    let total : n + length b ≡ at + length (a ++ b) = omega (arith, length-append a b) in
    rw (
      take_at front (drop n bytes) n size,
      drop_past front (drop n bytes) n (length b) size,
      drop-drop (length b) n bytes,
      total,
      append_assoc (take at bytes) a b,
    )

-- ---- a part that was borrowed, and filled

-- all from an offset on, written over from its start
pub overlay_rest : (at : ℕ) (content bytes : List ℕ) → at + length content ≤ length bytes
    → put_mid at (length bytes - at) bytes (content ++ drop (length content) (take (length bytes - at) (drop at bytes))) ≡ overlay at content bytes
unfolding overlay
overlay_rest at content bytes fits =
    let rest = drop at bytes in
    let all : length rest ≤ length bytes - at = simp length-drop (omega arith) in
    simp (take_all (length bytes - at) rest all, drop_of_length-le rest all, append-nil, drop-drop, append_assoc)

-- a part that is borrowed
pub part_size : (at size : ℕ) (bytes : List ℕ) → at + size ≤ length bytes → length (take (at + size - at) (drop at bytes)) ≡ size
part_size at size bytes fits = simp (length-take, length-drop) (omega arith)

-- .. and comes back with as many bytes
pub part_laid : (at size : ℕ) (content bytes : List ℕ) → length content ≡ size → put_mid at (at + size - at) bytes content ≡ overlay at content bytes
unfolding overlay
part_laid at size content bytes whole =
    let cut : at + size - at ≡ size = omega arith in
    rw (cut, whole) (simp (drop-drop, append_assoc))

-- just so many, by what fills any count of bytes
pub overlay_filled : (at size : ℕ) (fill : ℕ → List ℕ) (bytes : List ℕ) → ((n : ℕ) → length (fill n) ≡ n) → at + size ≤ length bytes
    → put_mid at (at + size - at) bytes (fill (length (take (at + size - at) (drop at bytes)))) ≡ overlay at (fill size) bytes
unfolding overlay
overlay_filled at size fill bytes whole fits =
    let cut : at + size - at ≡ size = omega arith in
    let room : length (take size (drop at bytes)) ≡ size = simp (length-take, length-drop) (omega arith) in
    rw (cut, room, whole size) (simp (drop-drop, append_assoc))

-- ---- each part afterwards

pub part_overlay : (at size : ℕ) (content bytes : List ℕ) → length content ≡ size → at + size ≤ length bytes
    → part at size (overlay at content bytes) ≡ content
unfolding overlay
part_overlay at size content bytes whole fits =
    let front : length (take at bytes) ≡ at = simp length-take (omega arith) in
    rw (append_assoc, drop_at (take at bytes) (content ++ drop (at + length content) bytes) at front)
    (take_at content (drop (at + length content) bytes) size whole)

-- a part of the front
part_front : (at size offset : ℕ) (bytes : List ℕ) → offset + size ≤ at → part offset size (take at bytes) ≡ part offset size bytes
part_front at size zero bytes ends = take-take size at bytes (omega arith)
part_front zero size (suc offset) bytes ends = absurd (omega arith)
part_front (suc at) size (suc offset) [] ends = refl
part_front (suc at) size (suc offset) (b ∷ bytes) ends = part_front at size offset bytes (omega arith)

-- one that ends before
pub part_before : (at size offset : ℕ) (content bytes : List ℕ) → offset + size ≤ at → at ≤ length bytes
    → part offset size (overlay at content bytes) ≡ part offset size bytes
unfolding overlay
part_before at size offset content bytes ends fits =
    let front : length (take at bytes) ≡ at = simp length-take (omega arith) in
    let start : offset ≤ length (take at bytes) = omega (arith, front) in
    let room : size ≤ length (drop offset (take at bytes)) = simp (length-drop, front) (omega arith) in
    rw (append_assoc, drop-append-le offset (take at bytes) (content ++ drop (at + length content) bytes) start)
    (take-append-le size (drop offset (take at bytes)) (content ++ drop (at + length content) bytes) room ∙ part_front at size offset bytes ends)

-- one that starts behind
pub part_behind : (at size offset : ℕ) (content bytes : List ℕ) → at + length content ≤ offset → at + length content ≤ length bytes
    → part offset size (overlay at content bytes) ≡ part offset size bytes
unfolding overlay
part_behind at size offset content bytes starts fits =
    let end = at + length content in
    let front : length (take at bytes ++ content) ≡ end = simp (length-append, length-take) (omega arith) in
    let past : end + (offset - end) ≡ offset = omega arith in
    ap (λ (n : ℕ). take size (drop n (take at bytes ++ content ++ drop end bytes))) (sym past)
    ∙ ap (take size)
    (drop_past (take at bytes ++ content) (drop end bytes) end (offset - end) front
    ∙ drop-drop (offset - end) end bytes
    ∙ ap (λ (n : ℕ). drop n bytes) past)

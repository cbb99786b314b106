-- What the rules of a view's calls owe the laws about its runs. Assumes nothing.
use Prim.Native.Nat.{ℕ, ◌+◌, ◌*◌, ◌≤◌}
use mathlib.Core.{Path.◌≡◌, Bool.true, List.{List, [], ◌∷◌}}
use lib.ListN.{length}
use Rattle.model.specs.{Model.Rules, Sides.{Side, at, sided}}

-- each number of a list is so
abbrev pub Every : (ℕ → Type 0) → List ℕ → Type 0
Every P [] = Unit
Every P (host ∷ hosts) = P host × Every P hosts

-- no number stands twice
abbrev pub Distinct : List ℕ → Type 0
Distinct [] = Unit
Distinct (host ∷ hosts) = Every (λ other. host ≡ other → ⊥) hosts × Distinct hosts

-- a buffer is as long as its sectors, which are distinct and lie whole in so many bytes
pub record Fitting (size : ℕ) (hosts buffer : List ℕ) : Type 0 where
  pub whole : length buffer ≡ length hosts * 512
  pub inside : Every (λ host. host * 512 + 512 ≤ size) hosts
  pub distinct : Distinct hosts

-- bytes of a sector are given another form of the same length
abbrev pub Sized : (ℕ → List ℕ → List ℕ) → Type 0
Sized form = (host : ℕ) (bytes : List ℕ) → length bytes ≡ 512 → length (form host bytes) ≡ 512

module _ {Call Lock Answer : Type 0} where
  -- a call is accepted with this lock, on an image of this length
  abbrev pub Accepts : Rules Call Lock Answer → Call → Lock → ℕ → Type 0
  Accepts rules call lock size = rules.accepts call (rules.judge call lock size) ≡ true

  pub record Lawful (rules : Rules Call Lock Answer) : Type 0 where
    pub fitting : (call : Call) (lock : Lock) (size : ℕ) → Accepts rules call lock size → Fitting size (rules.hosts call) (rules.buffer call)
    pub stored_sized : (call : Call) → Sized (rules.stored call)
    pub shown_sized : (call : Call) → Sized (rules.shown call)

pub sided_lawful : {Call Lock Answer : Type 0} (rules : Side → Rules Call Lock Answer) → ((side : Side) → Lawful (rules side)) → Lawful (sided rules)
unfolding sided
sided_lawful rules lawful =
    record {
      fitting = λ turn locks size e. (lawful turn.side).fitting turn.call (at turn.side locks) size e;
      stored_sized = λ turn. (lawful turn.side).stored_sized turn.call;
      shown_sized = λ turn. (lawful turn.side).shown_sized turn.call;
    }

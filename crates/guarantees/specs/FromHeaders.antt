-- From headers to demand 3: two candidates that open at their location codes for one host size, with one sector size, and whose data areas
-- nest, give views for which demand 3 holds, with any two keys and the data areas that the headers tell. Assumes nothing.
use Rattle.std.specs.Prelude.{ℕ, ◌+◌, ◌≤◌, Ok}
use mathlib.Core.{Path.◌≡◌, Bool.{Bool, false}, List.{List, [], ◌∷◌}}
use Rattle.layout.specs.declared.Layout.{Layout}
use Rattle.opening.specs.Opening.{opened}
use Rattle.making.specs.Views.{plain_view, protected_view}
use Rattle.model.specs.{Model.State, Sides.Both}
use Rattle.header_claims.specs.{Header.fields_at, Opening.kind_of}
use Rattle.guarantees.specs.Interleaving.{Interleaved}
use Rattle.access_claims.specs.Table.{Call}
use Rattle.access_claims.specs.Views.{plain, protecting}

-- a layout has the host, and the data area that a header tells
pub record HasArea (host_size : ℕ) (h : List ℕ) (layout : Layout) : Type 0 where
  pub host : layout.host_size ≡ host_size
  pub start : layout.data_start ≡ (fields_at h).data_start
  pub size : layout.data_size ≡ (fields_at h).data_size

-- a header at a standard volume's location, and one at a hidden volume's, with the same Z, whose data area lies in the first's
pub record HeadersNest (outer_header hidden_header : List ℕ) (outer_code hidden_code : ℕ) : Type 0 where
  pub first_standard : kind_of outer_code ≡ 0
  pub second_hidden : kind_of hidden_code ≡ 1
  pub same_sectors : (fields_at outer_header).sector_size ≡ (fields_at hidden_header).sector_size
  pub starts : (fields_at outer_header).data_start ≤ (fields_at hidden_header).data_start
  pub ends : (fields_at hidden_header).data_start + (fields_at hidden_header).data_size
      ≤ (fields_at outer_header).data_start + (fields_at outer_header).data_size

-- the two views, and what holds of them
pub record ViewsHold (outer_header hidden_header : List ℕ) (host_size : ℕ) (outer_layout hidden_layout : Layout) : Type 0 where
  pub outer_area : HasArea host_size outer_header outer_layout
  pub hidden_area : HasArea host_size hidden_header hidden_layout
  pub outer_view : protected_view outer_layout hidden_layout ≡ Ok (protecting outer_layout hidden_layout false)
  pub hidden_view : plain_view hidden_layout ≡ Ok (plain hidden_layout false)
  pub demand3 : (outer_key hidden_key : List ℕ) (model : State (Both Bool)) (xs ys : List Call)
      → Interleaved outer_layout hidden_layout outer_key hidden_key model xs ys

-- the claim, for any bytes
pub record FromHeaders (outer_header hidden_header : List ℕ) (outer_code hidden_code host_size : ℕ) : Type 0 where
  pub holds : (outer_layout hidden_layout : Layout) → opened outer_header (outer_code ∷ []) host_size ≡ Ok outer_layout
      → opened hidden_header (hidden_code ∷ []) host_size ≡ Ok hidden_layout → HeadersNest outer_header hidden_header outer_code hidden_code
      → ViewsHold outer_header hidden_header host_size outer_layout hidden_layout

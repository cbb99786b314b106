-- Every claim, for all arguments: what the contract of `guarantees::demands` cites. Assumes nothing.
use Rattle.std.specs.Prelude.{ℕ, List}
use Rattle.extent.specs.declared.Extent.{Extent}
use Rattle.layout.specs.declared.Layout.{Layout}
use Rattle.view.specs.declared.View.{View}
use Rattle.plaintext.specs.declared.KeyedView.{KeyedView}
use Rattle.access_claims.specs.Access.{AccessesByTable}
use Rattle.guarantees.specs.Boundary.{TellsNumbers, ReturnsZero, OrdersNumbers, StoresAnswers}
use Rattle.guarantees.specs.BoundaryRuns.{Numbers, CarriesRuns, BeginsRuns}
use Rattle.access_claims.specs.Enciphering.{KeepsField, EnciphersExactly, SpellsTweaks, TweaksSectors}
use Rattle.access_claims.specs.Extents.{SharesLeast, EndsBy}
use Rattle.guarantees.specs.{FromHeaders.FromHeaders, Interleaving.Demand3}
use Rattle.access_claims.specs.InTheWay.{NamesSectors}
use Rattle.header_claims.specs.Judging.{KeepsRules, JudgesExactly, GivesKeys}
use Rattle.header_claims.specs.{MapProgram.{ReadsInput, PrintsLines}, Numbers.{SpellsNumbers, ChecksBytes}}
use Rattle.header_claims.specs.Opening.{OpensExactlyWhen, LocatesHeaders}
use Rattle.access_claims.specs.{Parts.KeepsParts, Placing.{PlacesExtents, PlacesNumbers}}
use Rattle.access_claims.specs.{Plaintext.{PlaintextByTable, GivesBack, TellsAsRaw}, Views.MakesViews}
use Rattle.guarantees.specs.SameAt512.{SameAt512}
use Rattle.header_claims.specs.SectorMap.{MapsExactly, OpenedIsSound}
use Rattle.header_claims.specs.Writing.{Request, WritesExactly, LaysHeaders, ReadsBack, WritesAgain}
use Rattle.protection.specs.Protection.{Protection}

pub record Claims : Type 0 where
  -- what the others are stated in
  pub numbers : SpellsNumbers
  pub checksum : ChecksBytes
  pub rules : KeepsRules
  pub extents : (a b : Extent) → SharesLeast a b
  pub ends : (extent : Extent) (end : ℕ) → EndsBy extent end
  -- demand 2: headers, opening, the writing of headers, and the sector map
  pub judges : (kind host_size index : ℕ) (h : List ℕ) → JudgesExactly kind host_size index h
  pub locates : (host_size : ℕ) → LocatesHeaders host_size
  pub opens : (candidates codes : List ℕ) (host_size : ℕ) → OpensExactlyWhen candidates codes host_size
  pub keys : (candidates : List ℕ) (borrowed : ℕ × ℕ) (keys : List ℕ) (returned : ℕ × ℕ) → GivesKeys candidates borrowed keys returned
  pub opened_sound : OpenedIsSound
  pub written : (request : Request) (before : List ℕ) → WritesExactly request before
  pub laid : (layout : Layout) (salt keys before : List ℕ) → LaysHeaders layout salt keys before
  pub read_back : (request : Request) (before : List ℕ) → ReadsBack request before
  pub written_again : (h : List ℕ) (code host_size : ℕ) (layout : Layout) (before : List ℕ) → WritesAgain h code host_size layout before
  pub maps : (layout : Layout) → MapsExactly layout
  -- views, and reads and writes on any of them
  pub views : (outer hidden_layout : Layout) → MakesViews outer hidden_layout
  pub parts : (layout hidden_layout : Layout) (protection : Protection) → KeepsParts layout hidden_layout protection
  pub accesses : (view : View) (image : List ℕ) (first count : ℕ) (buffer : List ℕ) → AccessesByTable view image first count buffer
  pub named : (view : View) (image : List ℕ) (first count : ℕ) (buffer : List ℕ) → NamesSectors view image first count buffer
  pub placed : (view : View) (image : List ℕ) (first count : ℕ) (buffer : List ℕ) → PlacesExtents view image first count buffer
  -- .. of plaintext, and what enciphers it
  pub plaintexts : (keyed : KeyedView) (image : List ℕ) (first count : ℕ) (buffer : List ℕ) → PlaintextByTable keyed image first count buffer
  pub given_back : (keyed : KeyedView) (image : List ℕ) (first count : ℕ) (buffer : List ℕ) → GivesBack keyed image first count buffer
  pub field : KeepsField
  pub enciphers : (key : List ℕ) (number : ℕ) (unit : List ℕ) → EnciphersExactly key number unit
  pub tweaks : (number other : ℕ) → SpellsTweaks number other
  pub tweaked : (layout : Layout) → TweaksSectors layout
  -- demand 3, and from two headers to it
  pub demand3 : (outer_layout hidden_layout : Layout) (outer_key hidden_key : List ℕ) → Demand3 outer_layout hidden_layout outer_key hidden_key
  pub from_headers : (outer_header hidden_header : List ℕ) (outer_code hidden_code host_size : ℕ)
      → FromHeaders outer_header hidden_header outer_code hidden_code host_size
  -- the boundary for C and Rust
  pub told : TellsNumbers
  pub zero : ReturnsZero
  pub ordered : (host kind magic version program start size candidate sectors protected first end lock : ℕ)
      → OrdersNumbers host kind magic version program start size candidate sectors protected first end lock
  pub stored : (before : List ℕ) → StoresAnswers before
  pub begun : (outer_layout hidden_layout : Layout) (outer_key hidden_key : List ℕ) → BeginsRuns outer_layout hidden_layout outer_key hidden_key
  pub carried : (numbers : Numbers) → CarriesRuns numbers
  pub placed_numbers : (view image : List ℕ) (first count : ℕ) (buffer offset_before sector_before : List ℕ)
      → PlacesNumbers view image first count buffer offset_before sector_before
  pub told_as_raw : (view key image : List ℕ) (first count : ℕ) (buffer sector_before : List ℕ)
      → TellsAsRaw view key image first count buffer sector_before
  -- the map program
  pub input : ReadsInput
  pub output : PrintsLines
  -- sectors of 512 bytes: every rule as before
  pub at512 : SameAt512

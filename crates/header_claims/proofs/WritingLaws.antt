-- The checks of the writer reflect what the guarantees say of them, and what is asked for is the layout that they judge. Assumes nothing.
use Prim.Native.Nat.{ℕ, ◌≤◌}
use mathlib.Core.Path.{◌≡◌}
use lib.{Dec.leb, ListN.length}
use Rattle.layout.specs.{Rules.{host_size_rule, sector_size_rule, data_area_rule}, declared.Layout.Layout}
use Rattle.locations.specs.Locations.{code_rule}
use Rattle.header_format.specs.Format.{magic_number, version_rule}
use Rattle.header_format.specs.Format.{new_lengths_rule}
use Rattle.header_writing.specs.HeaderWriting.{asked_layout}
use Rattle.header_claims.specs.Header.{DataArea}
use Rattle.header_claims.specs.Writing.{Request, layout_for, right_lengths, known_magic, known_code, allowed_host, supported_version, Passes}
use Rattle.header_claims.specs.Writing.{allowed_sectors, allowed_area}
use Rattle.header_claims.proofs.CandidateLaws.{location_of_kind, kind_of_says}
use Rattle.header_claims.proofs.HeaderLaws.{magic_number_says, magic_reflects}
use Rattle.header_claims.proofs.LineLaws.{supported_reflects}
use Rattle.header_claims.proofs.Reflects.{Reflects, reflects_map}
use Rattle.header_claims.proofs.RuleReflections.{new_lengths_reflects, code_reflects, host_size_reflects, sector_size_reflects}
use Rattle.header_claims.proofs.SoundLaws.{data_area_rule_reflects}

-- what the definitions judge
abbrev pub asked : Request → Layout
asked r = asked_layout r.magic r.version r.min_program_version r.code r.host_size r.data_start r.data_size r.sector_size

-- for a known code it is the layout that the guarantees speak of
pub asked_is : (r : Request) → r.code ≤ 3 → asked r ≡ layout_for (magic_number r.magic) r
unfolding asked_layout
asked_is r known =
    let kind = location_of_kind r.code known in
    λ i. record {
      host_size = r.host_size;
      kind = kind i;
      magic = magic_number r.magic;
      version = r.version;
      min_program_version = r.min_program_version;
      data_start = r.data_start;
      data_size = r.data_size;
      candidate = 0;
      sector_size = r.sector_size;
    }

-- a data area has nothing to do with the magic
any_magic : (r : Request) (a b : ℕ) → DataArea (layout_for a r) r.data_size → DataArea (layout_for b r) r.data_size
any_magic r a b fits =
    record {
      at_least = fits.at_least;
      size_multiple = fits.size_multiple;
      start_multiple = fits.start_multiple;
      host_multiple = fits.host_multiple;
      encrypted = fits.encrypted;
      standard_start = fits.standard_start;
      hidden_start = fits.hidden_start;
      fits = fits.fits;
    }

module _ (r : Request) (size : ℕ) where
  pub lengths_pass : Reflects (Passes right_lengths r size) (new_lengths_rule (length r.salt) (length r.keys) size)
  unfolding Passes
  lengths_pass = new_lengths_reflects (length r.salt) (length r.keys) size

  pub magic_passes : Reflects (Passes known_magic r size) (leb (asked r).magic 1)
  unfolding Passes asked_layout
  magic_passes = magic_reflects (magic_number_says r.magic)

  pub code_passes : Reflects (Passes known_code r size) (code_rule r.code)
  unfolding Passes
  code_passes = code_reflects r.code

  pub host_passes : Reflects (Passes allowed_host r size) (host_size_rule (asked r).host_size)
  unfolding Passes asked_layout
  host_passes = host_size_reflects r.host_size

  pub version_passes : Passes known_magic r size → Reflects (Passes supported_version r size) (version_rule (asked r).magic (asked r).version)
  unfolding Passes asked_layout
  version_passes known = supported_reflects r.magic r.version known (magic_number_says r.magic)

  pub sectors_pass : Reflects (Passes allowed_sectors r size) (sector_size_rule (asked r).sector_size)
  unfolding Passes asked_layout
  sectors_pass = sector_size_reflects r.sector_size

  pub area_passes : Passes known_code r size → Passes allowed_sectors r size → Reflects (Passes allowed_area r size) (data_area_rule (asked r))
  unfolding Passes
  area_passes known sectors =
      let told = layout_for (magic_number r.magic) r in
      rw (asked_is r known)
      (reflects_map (λ p. any_magic r (magic_number r.magic) 0 p.2) (λ a. (kind_of_says r.code, sectors, any_magic r 0 (magic_number r.magic) a))
      (data_area_rule_reflects told))

-- Where bytes stop being the front of a record.
use Rattle.std.specs.Prelude.{◌≡◌, ℕ, ◌+◌, ◌<◌, ◌≤◌, List, length, take, slice_index}
use Rattle.cell_records.specs.declared.record.Record.{Record}
use Rattle.cell_records.specs.declared.record.Bad.{Bad}
use Rattle.cell_records.specs.Layouts.{widths, start_of}
use Rattle.cell_records.specs.Records.{Allowed, kind_of, last_kind, spelling}
use Rattle.domain_base.specs.declared.version.Version.{Version}

-- The first n bytes are there, and some record of the version is spelled so as far as they go.
pub record GoesOn (version : Version) (bytes : List ℕ) (n : ℕ) : Type 0 where
  pub there : n ≤ length bytes
  pub value : Record
  pub allowed : Allowed value
  pub known : kind_of value ≤ last_kind version
  pub same : take n (spelling value) ≡ take n bytes

-- Some record agrees with the bytes before the field at `at`, and none with the bytes up to the end
-- of that field. So the field holds the first wrong byte, or the end of bytes that end early.
pub record IsFirstWrong (version : Version) (bytes : List ℕ) (bad : Bad) : Type 0 where
  -- the kind that the first byte names, 0 if there is none
  pub kind : bad.kind ≡ slice_index bytes 0
  pub field : ℕ
  pub is_field : field < length (widths bad.kind)
  pub at : bad.at ≡ start_of bad.kind field
  pub before : GoesOn version bytes bad.at
  pub wrong : GoesOn version bytes (start_of bad.kind (field + 1)) → ⊥

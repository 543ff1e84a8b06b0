-- What a change of one tag's file makes of its node.
use Rattle.std.specs.Prelude.{◌≡◌, ◌*◌, ℕ, Bool, nat_lt, List, Some}
use Rattle.std.specs.FinMap.{insert, retain_keys}
use Rattle.standing_laws.specs.domain_base.declared.limits.TheConstants.{PAGE_BYTES}
use Rattle.standing_laws.specs.domain_base.declared.place.Home.{Home}
use Rattle.standing_laws.specs.extent_maps.Runs.{home_at}
use Rattle.standing_laws.specs.extent_records.Writing.{places_before}
use Rattle.standing_laws.specs.fileset_files.declared.attributes.Attributes.{Attributes}
use Rattle.standing_laws.specs.fileset_files.State.{FileState}
use Rattle.standing_laws.specs.fileset_model.declared.node.Node.{Node}
use Rattle.standing_laws.specs.fileset_model.declared.node.Node.TheVariants.{Directory, File}
use Rattle.standing_laws.specs.domain_layout.Filled.{Contents}
use Rattle.standing_laws.specs.domain_layout.Seen.{SeenFile}

-- the file as a fileset has it: what it is, and the homes of those of its pages that it keeps
abbrev pub seen_of : FileState → SeenFile
seen_of state = record {
  is = state.attributes;
  homes = λ page. home_at (places_before state.keep state.places page);
}

-- the file has this page too, or in place of the one that it had
abbrev pub with_page : ℕ → List ℕ → Node → Node
with_page page bytes (File uid gid size logged pages) =
    File uid gid size logged (insert pages page bytes)
with_page page bytes (Directory uid gid) = Directory uid gid

-- the file has that size, and that flag
abbrev pub with_size : ℕ → Bool → Node → Node
with_size size flag (File uid gid was logged pages) = File uid gid size flag pages
with_size size flag (Directory uid gid) = Directory uid gid

-- the file has that size, and of its pages only those that begin before its end
abbrev pub cut_to : ℕ → Node → Node
cut_to size (File uid gid was logged pages) =
    File uid gid size logged (retain_keys pages (λ q. nat_lt (q * PAGE_BYTES) size))
cut_to size (Directory uid gid) = Directory uid gid

-- the same bytes stand at the homes of all pages of the file but one
abbrev pub AgreeBut : ℕ → Contents → Contents → SeenFile → Type 0
AgreeBut page one other seen =
    (q : ℕ) (home : Home) → ¬ q ≡ page → seen.homes q ≡ Some home → one home ≡ other home

-- two descriptions of one kind and owner
pub record IsSameOwner (a b : Attributes) : Type 0 where
  pub kind : a.kind ≡ b.kind
  pub uid : a.uid ≡ b.uid
  pub gid : a.gid ≡ b.gid

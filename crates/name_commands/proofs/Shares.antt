-- Whose a file or directory is, by what was looked at of it.
use Rattle.std.proofs.Common.{◌≡◌, ◌*◌, ℕ, Option, Some, None, IsSome, IsSomeAnd, refl, sym, ap}
use Rattle.std.specs.FinMap.{empty, len}
use Rattle.std.specs.Option.{option_map, option_map_or}
use Rattle.domain_changes.specs.domain_base.declared.place.Kind.{Kind}
use Rattle.domain_changes.specs.domain_base.declared.place.Kind.TheVariants as kind
use Rattle.domain_changes.specs.fileset_files.declared.attributes.Attributes.{Attributes}
use Rattle.domain_changes.specs.fileset_model.Paths.{is_directory}
use Rattle.domain_changes.specs.fileset_model.declared.node.Node.{Node}
use Rattle.domain_changes.specs.fileset_model.declared.node.Node.TheVariants.{Directory, File}
use Rattle.domain_changes.specs.name_space.Names.{is_directory_kind}
use Rattle.file_changes.specs.Reading.{IsDescribed, pages_in}
use Rattle.name_commands.specs.Leaving.{IsShareOf}

pub is_there : (of : Kind) (o : Option Attributes) → IsSomeAnd o (λ a. a.kind ≡ of) → IsSome o
is_there of None live = absurd live
is_there of (Some a) live = refl

pub not_both : kind.File ≡ kind.Directory → ⊥
not_both is = absurd (cc)

pub share_is : (o : Option Node) (what : Attributes) (of : Kind) (pages : ℕ) → IsSomeAnd o (IsDescribed what) → option_map is_directory o ≡ Some (is_directory_kind of) → (of ≡ kind.File → pages ≡ len (option_map_or pages_in o empty)) → (of ≡ kind.Directory → pages ≡ 0)
    → IsSomeAnd o (IsShareOf (record { uid = what.uid; gid = what.gid; blocks = 16 * pages }))
share_is None what of pages is kind_is file directory = absurd is
share_is (Some (File uid gid size logged its)) what kind.File pages is kind_is file directory = record {
  user = sym is.1;
  group = sym is.2;
  size = ap (λ (n : ℕ). 16 * n) (sym (file refl));
}
share_is (Some (File uid gid size logged its)) what kind.Directory pages is kind_is file directory = absurd (cc)
share_is (Some (Directory uid gid)) what kind.File pages is kind_is file directory = absurd (cc)
share_is (Some (Directory uid gid)) what kind.Directory pages is kind_is file directory = record {
  user = sym is.1;
  group = sym is.2;
  size = ap (λ (n : ℕ). 16 * n) (sym (directory refl));
}

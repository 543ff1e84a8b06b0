-- A second path of a file in a domain's memory, answered.
use Rattle.std.proofs.Common.{◌≡◌, ◌∙◌, ◌++◌, ◌∷◌, [], ℕ, List, Option, Some, None, inl, refl, sym, ap, subst}
use Rattle.std.specs.FinMap.{insert}
use Rattle.std.specs.Option.{option_map_or}
use Rattle.domain_changes.specs.domain_base.declared.place.Tag.{Tag}
use Rattle.domain_changes.specs.fileset_model.Apply.{link_checks, linked, refusal_of, with_tree}
use Rattle.domain_changes.specs.fileset_model.Fileset.{Fileset}
use Rattle.domain_changes.specs.fileset_model.Filesets.{FilesetMap}
use Rattle.domain_changes.specs.fileset_values.Orders.{Name, Path}
use Rattle.domain_changes.specs.fileset_model.Paths.{first_refusal}
use Rattle.domain_changes.specs.fileset_values.declared.command.Command.TheVariants.{Link}
use Rattle.domain_changes.specs.fileset_values.declared.command.Place.{Place}
use Rattle.domain_changes.specs.fileset_model.declared.fileset.FilesetSlot.{FilesetSlot}
use Rattle.domain_changes.specs.fileset_values.declared.reply.Refusal.{Refusal}
use Rattle.domain_changes.specs.fileset_values.declared.reply.Reply.TheVariants.{Done}
use Rattle.domain_changes.specs.domain_memory.declared.memory.DomainMemory.{DomainMemory}
use Rattle.name_changes.specs.Stages.{KeepsBooks, KeepsParents, Links}
use Rattle.name_commands.specs.Coming.{IsAnswered}
use Rattle.name_commands.specs.Ending.{StopsAs, StopsWith}
use Rattle.name_commands.specs.declared.stop.Stop.{Stop}
use Rattle.name_commands.proofs.Given.{Given}
use Rattle.name_commands.proofs.Means.{accepted, in_this}

-- with no check more
pub as_they_are : (checks : List (Option Refusal)) → first_refusal (checks ++ None ∷ []) ≡ first_refusal checks
as_they_are [] = refl
as_they_are (None ∷ checks) = as_they_are checks
as_they_are (Some refusal ∷ checks) = refl

-- filesets whose named one has this tree are those with this change of it
pub with_its_tree : (memory : DomainMemory) (number : ℕ) (name : Name) (all : FilesetMap) (g : Given memory number name all) (change : Fileset → Fileset)
    → insert all g.entry.name (record g.fileset { tree = change g.fileset.tree }) ≡ with_tree all name change
with_its_tree memory number name all g change =
    ap (λ (n : Name). insert all n (record g.fileset { tree = change g.fileset.tree })) g.named
    ∙ sym (ap (λ (o : Option FilesetSlot). option_map_or (λ (s : FilesetSlot). insert all name (record s { tree = change s.tree })) o all) g.here)

module _ (memory last : DomainMemory) (number : ℕ) (place : Place) (to : Path) (all : FilesetMap) (g : Given memory number place.fileset all) where
  link_refusal : refusal_of all (Link place to) ≡ first_refusal (link_checks place.path to g.fileset)
  link_refusal = in_this all place.fileset g.fileset (link_checks place.path to) g.here

  pub link_stops : (stop : Stop) → StopsWith (first_refusal (link_checks place.path to g.fileset ++ None ∷ [])) stop → StopsAs all (Link place to) stop
  link_stops stop stops = subst (λ (o : Option Refusal). StopsWith o stop) (as_they_are (link_checks place.path to g.fileset) ∙ sym link_refusal) stops

  pub answers_linked : (tag : Tag) → Links place.path to all g.entry g.fileset last tag → KeepsParents memory last → KeepsBooks memory last all g.entry g.fileset (linked place.path to g.fileset.tree) → IsAnswered last all (Link place to) Done
  answers_linked tag links parents books = record {
    now = insert all g.entry.name (record g.fileset { tree = linked place.path to g.fileset.tree });
    kept = record {
      staged = links.staged;
      parents = parents g.kept.parents;
      books = books g.kept.books;
    };
    means = inl (accepted all (Link place to) Done _ (link_refusal ∙ links.allowed) refl (with_its_tree memory number place.fileset all g (linked place.path to)));
  }

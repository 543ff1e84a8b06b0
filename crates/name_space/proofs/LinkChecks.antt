-- What is refused of a link, by its parts.
use Rattle.std.proofs.Common.{◌≡◌, ◌∙◌, ◌<◌, ◌≤◌, Bool, true, false, nat_le, List, [], ◌∷◌, Option, Some, None, refl, sym, ap, arith, leb-false, leb-true}
use Rattle.std.specs.Option.{option_map_or}
use Rattle.plain_program.specs.domain_base.Limits.{max_links}
use Rattle.plain_program.specs.domain_base.declared.place.Kind.TheVariants as kinds
use Rattle.plain_program.specs.domain_base.declared.place.Tag.{Tag}
use Rattle.directory_rows.specs.page_store.Bitfiles.{Bitfile, Bitfiles, links_at}
use Rattle.plain_program.specs.fileset_model.Apply.{link_checks, links_full, path_taken}
use Rattle.plain_program.specs.fileset_values.Orders.{Path}
use Rattle.plain_program.specs.fileset_model.Paths.{directory_here, first_refusal, paths_to, refuse_if, target_refusal, walk_refusal}
use Rattle.plain_program.specs.fileset_model.declared.fileset.FilesetSlot.{FilesetSlot}
use Rattle.plain_program.specs.fileset_values.declared.reply.Refusal.{Refusal}
use Rattle.plain_program.specs.fileset_values.declared.reply.Refusal.TheVariants.{LinksFull}
use Rattle.name_space.specs.Changes.{IsOriginal, free_checks, taking_checks}
use Rattle.name_space.specs.Names.{led_to, number_of}
use Rattle.name_space.proofs.Originals.{is_in, number_at}
use Rattle.name_space.proofs.RenameChecks.{one_check, writable}
use Rattle.name_space.proofs.Spots.{passed_more, refused_more}

module _ (files : Bitfiles) (slot : FilesetSlot) (original : IsOriginal files slot) (path to : Path) where
  abbrev source : List (Option Refusal)
  source = taking_checks kinds.File path slot

  abbrev free : List (Option Refusal)
  free = free_checks to slot

  parts : first_refusal (link_checks path to slot) ≡ first_refusal (target_refusal slot path ∷ directory_here slot path ∷ walk_refusal slot to ∷ path_taken slot to ∷ links_full slot path ∷ [])
  parts = ap (λ (r : Option Refusal). first_refusal (r ∷ target_refusal slot path ∷ directory_here slot path ∷ walk_refusal slot to ∷ path_taken slot to ∷ links_full slot path ∷ [])) (writable slot files original)

  pub source_refused : (refusal : Refusal) → first_refusal source ≡ Some refusal → first_refusal (link_checks path to slot) ≡ Some refusal
  source_refused refusal is = parts ∙ refused_more (target_refusal slot path ∷ directory_here slot path ∷ []) (walk_refusal slot to ∷ path_taken slot to ∷ links_full slot path ∷ []) refusal is

  module _ (clear : first_refusal source ≡ None) where
    behind : first_refusal (link_checks path to slot) ≡ first_refusal (walk_refusal slot to ∷ path_taken slot to ∷ links_full slot path ∷ [])
    behind = parts ∙ passed_more (target_refusal slot path ∷ directory_here slot path ∷ []) (walk_refusal slot to ∷ path_taken slot to ∷ links_full slot path ∷ []) clear

    pub place_refused : (refusal : Refusal) → first_refusal free ≡ Some refusal → first_refusal (link_checks path to slot) ≡ Some refusal
    place_refused refusal is = behind ∙ refused_more (walk_refusal slot to ∷ path_taken slot to ∷ []) (links_full slot path ∷ []) refusal is

    -- the file has as many links as paths lead to it
    module _ (clear_to : first_refusal free ≡ None) (tag : Tag) (led : led_to files path ≡ Some (tag, kinds.File)) where
      pub links_are : links_at files tag ≡ paths_to slot.tree (number_of tag)
      links_are =
          let had = is_in files slot original.names original.role path tag kinds.File led in
          ap (λ (o : Option Bitfile). option_map_or (λ (f : Bitfile). f.links) o 0) had.there ∙ had.links

      full : first_refusal (link_checks path to slot) ≡ refuse_if (nat_le max_links (links_at files tag)) LinksFull
      full =
          behind
          ∙ passed_more (walk_refusal slot to ∷ path_taken slot to ∷ []) (links_full slot path ∷ []) clear_to
          ∙ one_check (links_full slot path)
          ∙ ap (λ o. refuse_if (option_map_or (λ n. nat_le max_links (paths_to slot.tree n)) o false) LinksFull) (number_at files slot original.names original.role path tag kinds.File led)
          ∙ ap (λ n. refuse_if (nat_le max_links n) LinksFull) (sym links_are)

      pub link_allowed : links_at files tag < max_links → first_refusal (link_checks path to slot) ≡ None
      link_allowed few = full ∙ ap (λ b. refuse_if b LinksFull) (below (nat_le max_links (links_at files tag)) refl)
        where
          below : (b : Bool) → nat_le max_links (links_at files tag) ≡ b → b ≡ false
          below true is = absurd (omega (arith, few, leb-true 1000 (links_at files tag) is))
          below false is = refl

      pub link_full : max_links ≤ links_at files tag → first_refusal (link_checks path to slot) ≡ Some LinksFull
      link_full many = full ∙ ap (λ b. refuse_if b LinksFull) (above (nat_le max_links (links_at files tag)) refl)
        where
          above : (b : Bool) → nat_le max_links (links_at files tag) ≡ b → b ≡ true
          above true is = refl
          above false is = absurd (omega (arith, many, leb-false 1000 (links_at files tag) is))

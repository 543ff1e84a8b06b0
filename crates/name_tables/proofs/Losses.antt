-- A set of names that has lost a file or directory is one of a clone.
use Rattle.std.proofs.Common.{◌≡◌, ◌≢◌, ◌∙◌, inl, Bool, true, false, cond, is_some, Option, Some, None, [], refl, sym, ap, true≢false}
use Rattle.std.specs.Cmp.{nat_cmp_total}
use Rattle.std.specs.Ordering.{nat_cmp}
use Rattle.std.specs.FinMap as map
use Rattle.fileset_lending.specs.domain_base.declared.place.Tag.{Tag}
use Rattle.fileset_lending.specs.page_store.Bitfiles.{Bitfile, Bitfiles, same_tag, without_file}
use Rattle.fileset_lending.specs.fileset_model.declared.fileset.NumberSet.{NumberSet}
use Rattle.fileset_lending.proofs.OfFilesetValues.MapLemmas.{get-insert_other, get-insert_same}
use Rattle.fileset_lending.specs.name_space.Changes.{HasOriginal}
use Rattle.fileset_lending.specs.name_space.Names.{HasNames, number_of}
use Rattle.fileset_lending.proofs.OfNameSpace.Originals.{one_tag, tags_differ, tags_same}
use Rattle.fileset_lending.specs.name_space.Views.{clone_without}
use Rattle.fileset_lending.proofs.OfNameSpace.Views.{view_names_lem}

module _ (files : Bitfiles) (has : HasOriginal files) (lost : Tag) (file : Bitfile) (there : files lost ≡ Some file) where
  abbrev out : NumberSet
  out = map.insert map.empty (number_of lost) tt

  same_out : (tag : Tag) → number_of tag ≡ number_of lost → map.contains_key out (number_of tag) ≡ true
  same_out tag same = ap (map.contains_key out) same ∙ ap is_some (get-insert_same nat_cmp_total map.nat_cmp-IsAntisymmetric map.empty (number_of lost) tt)

  other_in : (tag : Tag) → number_of tag ≢ number_of lost → map.contains_key out (number_of tag) ≡ false
  other_in tag differ = ap is_some (get-insert_other nat_cmp_total map.nat_cmp-IsAntisymmetric map.empty (number_of lost) tt (number_of tag) differ ∙ map.get-empty nat_cmp (number_of tag))

  kept : (tag : Tag) → same_tag tag lost ≡ false → without_file lost files tag ≡ files tag
  kept tag other = ap (λ b. cond b None (files tag)) other

  -- another tag of the same number names nothing
  nothing : (tag : Tag) → map.contains_key out (number_of tag) ≡ true → same_tag tag lost ≡ false → (o : Option Bitfile) → files tag ≡ o → o ≡ None
  nothing tag is other None at = refl
  nothing tag is other (Some found) at =
      let differ : number_of tag ≢ number_of lost = λ same. tags_differ tag lost other (one_tag tag lost (has.1.names.seq tag found at) (has.1.names.seq lost file there) same) in
      absurd (true≢false (sym is ∙ other_in tag differ))

  hidden : (tag : Tag) → map.contains_key out (number_of tag) ≡ true → (b : Bool) → same_tag tag lost ≡ b → without_file lost files tag ≡ None
  hidden tag is true same = ap (λ b. cond b None (files tag)) same
  hidden tag is false other = kept tag other ∙ nothing tag is other (files tag) refl

  seen : (tag : Tag) → map.contains_key out (number_of tag) ≡ false → (b : Bool) → same_tag tag lost ≡ b → without_file lost files tag ≡ files tag
  seen tag is true same = absurd (true≢false (sym (same_out tag (ap number_of (tags_same tag lost same))) ∙ is))
  seen tag is false other = kept tag other

  pub lost_names : HasNames (without_file lost files)
  lost_names =
      let cloned = view_names_lem files (without_file lost files) has.0 [] out has.1 (record { hidden = λ tag is. hidden tag is (same_tag tag lost) refl; seen = λ tag is. inl (seen tag is (same_tag tag lost) refl) }) in
      (clone_without [] out has.0, cloned.names, cloned.valid)

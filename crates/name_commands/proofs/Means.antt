-- What commands on filesets mean if the table has a fileset, and if it has not.
use Rattle.std.proofs.Common.{◌≡◌, ◌∙◌, ◌||◌, ℕ, zero, suc, Bool, true, false, List, [], ◌∷◌, MatchOption, Option, Some, None, IsSome, IsSomeAnd, is_some, map, slice_get, refl, sym, ap, subst, true≢false}
use Rattle.std.specs.FinMap as map
use Rattle.std.specs.List.{list_any}
use Rattle.std.specs.Option.{option_map, option_map_or}
use Rattle.std.specs.Cmp.Lexicographic.{bytes_decides}
use Rattle.domain_changes.specs.fileset_model.Apply.{Answers, Changes, answer_of, filesets_full, has_clone, in_fileset, is_clone, is_clone_of, original_of, read_only, refusal_of}
use Rattle.domain_changes.specs.fileset_model.Filesets.{FilesetMap}
use Rattle.domain_changes.specs.fileset_values.Orders.{Name, name_cmp, name_cmp-total, name_cmp-IsAntisymmetric}
use Rattle.domain_changes.specs.fileset_model.Paths.{first_refusal, refuse_if, same_name}
use Rattle.domain_changes.specs.fileset_values.declared.command.Command.{Command}
use Rattle.domain_changes.specs.fileset_values.declared.command.Command.TheVariants as command
use Rattle.domain_changes.specs.fileset_values.declared.command.Owner.{Owner}
use Rattle.domain_changes.specs.fileset_model.declared.fileset.FilesetSlot.{FilesetSlot}
use Rattle.domain_changes.specs.fileset_model.declared.fileset.Limits.{Limits}
use Rattle.domain_changes.specs.fileset_model.declared.fileset.Role.{Role}
use Rattle.domain_changes.specs.fileset_model.declared.fileset.Role.TheVariants as role
use Rattle.domain_changes.specs.fileset_values.declared.reply.Refusal.{Refusal}
use Rattle.domain_changes.specs.fileset_values.declared.reply.Refusal.TheVariants.{FilesetExists, HasClone, NoFileset, ReadOnly}
use Rattle.domain_changes.specs.fileset_values.declared.reply.Reply.{Reply}
use Rattle.domain_changes.specs.fileset_values.declared.reply.Reply.TheVariants.{Done, Refused}
use Rattle.domain_changes.specs.fileset_table.Table.{entry_of, has_name}
use Rattle.domain_changes.specs.fileset_table.declared.slot.FilesetEntry.{FilesetEntry}
use Rattle.domain_changes.specs.fileset_table.declared.slot.SlotItem.{SlotItem}
use Rattle.domain_changes.specs.fileset_table.declared.slot.SlotItem.TheVariants as slot
use Rattle.domain_changes.specs.legal_histories.GoingOn.{HaveNoClone}
use Rattle.domain_changes.proofs.OfLegalHistories.ImageLemmas.{images, same_images, where_all}
use Rattle.domain_changes.specs.domain_layout.Filled.{FillsThere}
use Rattle.domain_changes.specs.domain_layout.Shape.{FilesetShape, IsOriginal}
use Rattle.domain_changes.specs.domain_standing.Domain.{DomainNow, item_in}
use Rattle.domain_changes.specs.domain_standing.Slots.{StandSlots}
use Rattle.domain_changes.specs.name_space.Names.{number_of, root_tag}
use Rattle.domain_changes.specs.standing_laws.NewFileset.{empty_slot}
use Rattle.domain_changes.specs.standing_laws.SetsQuota.{fileset_limited}
use Rattle.domain_state.proofs.NoClones.{have_no_clone}

-- ---- which filesets there are

module _ (d : DomainNow) (all : FilesetMap) (stand : StandSlots d all) where
  filled : (o : Option FilesetShape) (f : Option FilesetSlot) (number : ℕ) (entry : FilesetEntry) → IsSomeAnd o (IsOriginal d.pages number entry) → FillsThere d.contents o f → (fileset : FilesetSlot) × (f ≡ Some fileset)
  filled None f number entry is fills = absurd is
  filled (Some shape) None number entry is fills = absurd fills
  filled (Some shape) (Some fileset) number entry is fills = (fileset, refl)

  pub there : (number : ℕ) (entry : FilesetEntry) → item_in d number ≡ Some (slot.Original entry) → (fileset : FilesetSlot) × (map.get all entry.name ≡ Some fileset)
  there number entry has = filled (stand.shapes entry.name) (map.get all entry.name) number entry (stand.are.each number (slot.Original entry) has) (stand.filled entry.name)

  none_after : (a b : Bool) → (a || b) ≡ false → b ≡ false
  none_after true b e = absurd (true≢false e)
  none_after false b e = e

  none_at : (name : Name) (xs : List SlotItem) (n : ℕ) (item : SlotItem) → slice_get xs n ≡ Some item → list_any (has_name name) xs ≡ false → has_name name item ≡ false
  none_at name [] n item at none = absurd (cc)
  none_at name (x ∷ xs) zero item at none = by_test (has_name name x) (ap (has_name name) (some_same x item at)) none
    where
      some_same : (x y : SlotItem) → Some x ≡ Some y → x ≡ y
      some_same x y e = cc

      by_test : (b : Bool) → b ≡ has_name name item → (b || list_any (has_name name) xs) ≡ false → has_name name item ≡ false
      by_test true is e = absurd (true≢false e)
      by_test false is e = sym is
  none_at name (x ∷ xs) (suc n) item at none = none_at name xs n item at (none_after (has_name name x) (list_any (has_name name) xs) none)

  named : (name : Name) (o : Option FilesetEntry) → IsSomeAnd o (λ entry. entry.name ≡ name) → option_map_or (λ (e : FilesetEntry). same_name e.name name) o false ≡ true
  named name None is = absurd is
  named name (Some entry) is = (bytes_decides entry.name name).1 is

  pub missing : (name : Name) → list_any (has_name name) d.table.slots ≡ false → map.get all name ≡ None
  missing name none = by_shape (stand.shapes name) refl (stand.filled name)
    where
      by_shape : (o : Option FilesetShape) → stand.shapes name ≡ o → FillsThere d.contents o (map.get all name) → map.get all name ≡ None
      by_shape None is fills = fills
      by_shape (Some shape) is fills =
          let found = stand.are.only name (subst IsSome (sym is) refl) in
          absurd (true≢false (sym (named name (entry_of found.item) found.named) ∙ none_at name d.table.slots found.number found.item found.there none))

-- ---- no fileset is a clone

abbrev pub nothing : FilesetSlot → Option Name
nothing s = None

none_among : (name : Name) (es : List (Name × FilesetSlot)) → list_any (λ (e : Name × Option Name). option_map_or (same_name name) e.1 false) (images name_cmp nothing es) ≡ false
none_among name [] = refl
none_among name (e ∷ es) = none_among name es

clone_among : (name : Name) (es : List (Name × FilesetSlot)) → list_any (λ (s : FilesetSlot). is_clone_of name s.role) (map (λ e. e.1) es)
    ≡ list_any (λ (e : Name × Option Name). option_map_or (same_name name) e.1 false) (images name_cmp (λ (s : FilesetSlot). original_of s.role) es)
clone_among name [] = refl
clone_among name (e ∷ es) = ap (λ rest. is_clone_of name e.1.role || rest) (clone_among name es)

no_original : (o : Option FilesetSlot) → ((s : FilesetSlot) → o ≡ Some s → s.role ≡ role.Original) → option_map (λ (s : FilesetSlot). original_of s.role) o ≡ option_map nothing o
no_original None is = refl
no_original (Some s) is = ap (λ (r : Role). Some (original_of r)) (is s refl)

pub none_original : (all : FilesetMap) → HaveNoClone all → images name_cmp (λ (s : FilesetSlot). original_of s.role) (map.entries all) ≡ images name_cmp nothing (map.entries all)
none_original all none =
    sym (ap (images name_cmp (λ (s : FilesetSlot). original_of s.role)) (where_all name_cmp (map.entries all)))
    ∙ same_images name_cmp name_cmp-total name_cmp-IsAntisymmetric (λ (s : FilesetSlot). original_of s.role) nothing (λ _. true) all all (λ q _. no_original (map.get all q) (none q))
    ∙ ap (images name_cmp nothing) (where_all name_cmp (map.entries all))

pub none_cloned : (all : FilesetMap) (name : Name) → HaveNoClone all → has_clone all name ≡ false
none_cloned all name none =
    clone_among name (map.entries all)
    ∙ ap (list_any (λ (e : Name × Option Name). option_map_or (same_name name) e.1 false)) (none_original all none)
    ∙ none_among name (map.entries all)

-- ---- what is refused

-- of checks in a fileset that is there, and in none
pub in_this : (all : FilesetMap) (name : Name) (fileset : FilesetSlot) (checks : FilesetSlot → List (Option Refusal)) → map.get all name ≡ Some fileset → in_fileset all name checks ≡ first_refusal (checks fileset)
in_this all name fileset checks at = ap (λ (o : Option FilesetSlot). option_map_or (λ (s : FilesetSlot). first_refusal (checks s)) o (Some NoFileset)) at

pub in_none : (all : FilesetMap) (name : Name) (checks : FilesetSlot → List (Option Refusal)) → map.get all name ≡ None → in_fileset all name checks ≡ Some NoFileset
in_none all name checks none = ap (λ (o : Option FilesetSlot). option_map_or (λ (s : FilesetSlot). first_refusal (checks s)) o (Some NoFileset)) none

-- ---- what is answered

pub accepted : (all : FilesetMap) (c : Command) (reply : Reply) (now : FilesetMap) → refusal_of all c ≡ None → reply ≡ answer_of all c → Changes all c now → Answers all c reply now
accepted all c reply now none answer changes =
    subst (λ (o : Option Refusal). MatchOption o ((reply ≡ answer_of all c) × Changes all c now) (λ refusal. (reply ≡ Refused refusal) × (now ≡ all))) (sym none) (answer, changes)

pub refused : (all : FilesetMap) (c : Command) (refusal : Refusal) → refusal_of all c ≡ Some refusal → Answers all c (Refused refusal) all
refused all c refusal is =
    subst (λ (o : Option Refusal). MatchOption o ((Refused refusal ≡ answer_of all c) × Changes all c all) (λ r. (Refused refusal ≡ Refused r) × (all ≡ all))) (sym is) (refl, refl)

module _ (d : DomainNow) (all : FilesetMap) where
  pub may_remove : (number : ℕ) (entry : FilesetEntry) → StandSlots d all → item_in d number ≡ Some (slot.Original entry) → refusal_of all (command.Rmfset entry.name) ≡ None
  may_remove number entry stand has =
      let at = there d all stand number entry has in
      in_this all entry.name at.0 (λ s. refuse_if (has_clone all entry.name) HasClone ∷ []) at.1
      ∙ ap (λ b. first_refusal (refuse_if b HasClone ∷ [])) (none_cloned all entry.name (have_no_clone d all stand))

  pub removed : (number : ℕ) (entry : FilesetEntry) → StandSlots d all → item_in d number ≡ Some (slot.Original entry) → Answers all (command.Rmfset entry.name) Done (map.remove all entry.name)
  removed number entry stand has =
      accepted all (command.Rmfset entry.name) Done (map.remove all entry.name) (may_remove number entry stand has) refl refl

  pub none_removed : (name : Name) → StandSlots d all → list_any (has_name name) d.table.slots ≡ false → Answers all (command.Rmfset name) (Refused NoFileset) all
  none_removed name stand none = refused all (command.Rmfset name) NoFileset (in_none all name (λ s. refuse_if (has_clone all name) HasClone ∷ []) (missing d all stand name none))

  -- each original may be changed
  pub writable : (number : ℕ) (entry : FilesetEntry) (fileset : FilesetSlot) → StandSlots d all → item_in d number ≡ Some (slot.Original entry) → map.get all entry.name ≡ Some fileset → read_only fileset ≡ None
  writable number entry fileset stand has at = ap (λ (r : Role). refuse_if (is_clone r) ReadOnly) (have_no_clone d all stand entry.name fileset at)

  pub may_limit : (number : ℕ) (entry : FilesetEntry) (fileset : FilesetSlot) (who : Owner) (files blocks : ℕ) → StandSlots d all → item_in d number ≡ Some (slot.Original entry) → map.get all entry.name ≡ Some fileset
      → refusal_of all (command.Setquota entry.name who files blocks) ≡ None
  may_limit number entry fileset who files blocks stand has at =
      in_this all entry.name fileset (λ s. read_only s ∷ []) at ∙ ap (λ (o : Option Refusal). first_refusal (o ∷ [])) (writable number entry fileset stand has at)

  pub limited : (number : ℕ) (entry : FilesetEntry) (fileset : FilesetSlot) (who : Owner) (limits : Limits) → StandSlots d all → item_in d number ≡ Some (slot.Original entry) → map.get all entry.name ≡ Some fileset
      → Answers all (command.Setquota entry.name who limits.files limits.blocks) Done (map.insert all entry.name (fileset_limited who limits fileset))
  limited number entry fileset who limits stand has at =
      accepted all (command.Setquota entry.name who limits.files limits.blocks) Done (map.insert all entry.name (fileset_limited who limits fileset))
      (may_limit number entry fileset who limits.files limits.blocks stand has at)
      refl
      (sym (ap (λ (o : Option FilesetSlot). option_map_or (λ (s : FilesetSlot). map.insert all entry.name (fileset_limited who limits s)) o all) at))

  pub none_limited : (name : Name) (who : Owner) (files blocks : ℕ) → StandSlots d all → list_any (has_name name) d.table.slots ≡ false → Answers all (command.Setquota name who files blocks) (Refused NoFileset) all
  none_limited name who files blocks stand none =
      refused all (command.Setquota name who files blocks) NoFileset (in_none all name (λ s. read_only s ∷ []) (missing d all stand name none))

  pub may_begin : (name : Name) → StandSlots d all → list_any (has_name name) d.table.slots ≡ false → filesets_full all ≡ None → refusal_of all (command.Mkfset name) ≡ None
  may_begin name stand none few =
      ap (λ (o : Option FilesetSlot). first_refusal (refuse_if (is_some o) FilesetExists ∷ filesets_full all ∷ [])) (missing d all stand name none)
      ∙ ap (λ (o : Option Refusal). first_refusal (o ∷ [])) few

  pub begun : (name : Name) → StandSlots d all → list_any (has_name name) d.table.slots ≡ false → filesets_full all ≡ None → Answers all (command.Mkfset name) Done (map.insert all name empty_slot)
  begun name stand none few =
      accepted all (command.Mkfset name) Done (map.insert all name empty_slot) (may_begin name stand none few) refl (number_of root_tag, refl)

  pub is_taken : (number : ℕ) (entry : FilesetEntry) → StandSlots d all → item_in d number ≡ Some (slot.Original entry) → refusal_of all (command.Mkfset entry.name) ≡ Some FilesetExists
  is_taken number entry stand has = ap (λ (o : Option FilesetSlot). first_refusal (refuse_if (is_some o) FilesetExists ∷ filesets_full all ∷ [])) (there d all stand number entry has).1

  pub taken : (number : ℕ) (entry : FilesetEntry) → StandSlots d all → item_in d number ≡ Some (slot.Original entry) → Answers all (command.Mkfset entry.name) (Refused FilesetExists) all
  taken number entry stand has = refused all (command.Mkfset entry.name) FilesetExists (is_taken number entry stand has)

-- What is always so stays so along a legal history.
use Rattle.std.proofs.Common.{◌≡◌, ℕ, zero, ◌≤◌, true, false, length, take, IsTrue, IsSomeAnd, unwrap_or, Option, Some, None, refl, sym, ap, subst, ◌∙◌, true≢false}
use Rattle.std.specs.Option.{option_map, option_map_or}
use Rattle.std.specs.FinMap as map
use Rattle.fileset_model.specs.domain_base.Limits.{max_filesets}
use Rattle.fileset_model.specs.Fileset.{Fileset}
use Rattle.fileset_model.specs.Filesets.{FilesetMap}
use Rattle.fileset_model.specs.LooksLike.{IsShown, LooksLike, LooksLikeSlot, LooksLikeThere, Shows}
use Rattle.fileset_model.specs.fileset_values.Orders.{Name, Path, name_cmp, name_cmp-total, name_cmp-IsAntisymmetric}
use Rattle.fileset_model.specs.Paths.{is_out_of_sync_at, is_out_of_sync}
use Rattle.fileset_model.specs.declared.fileset.FilesetSlot.{FilesetSlot}
use Rattle.fileset_model.specs.declared.fileset.NumberSet.{NumberSet}
use Rattle.fileset_model.specs.declared.fileset.Role.{Role}
use Rattle.fileset_model.specs.declared.fileset.Role.TheVariants.{Original, CloneOf}
use Rattle.legal_histories.specs.Valid.{AreValid, IsValidAs, IsValidClone, IsValidSlot}
use Rattle.legal_histories.proofs.ValidLemmas.{from_some_and, to_some_and}
use Rattle.legal_histories.specs.Marks.{GainsMarks, RoleGains, SlotGains}
use Rattle.legal_histories.proofs.LooksLemmas.{shown_as}
use Rattle.legal_histories.proofs.ImageLemmas.{images, same_images, where_all}
use Rattle.fileset_model.specs.Apply.{original_of}
use Rattle.std.proofs.lemmas.List.{length-map}

none≢some : {X : Type 0} (x : X) → None ≡ Some x → ⊥
none≢some x e = cc

-- ---- filesets that look alike

module _ (a b : FilesetSlot) (alike : LooksLikeSlot a b) where
  -- what is shown of one is shown of the other
  shown_there : (path : Path) → IsShown a path → IsShown b path
  shown_there = shown_as a b (λ path shown also. alike.out path shown)

  shows_there : (path : Path) (number : ℕ) → Shows a path number → Shows b path number
  shows_there path number shows = record {
    shown = shown_there path shows.shown;
    leads = alike.paths path shows.shown ∙ shows.leads;
    in_sync = sym (ap (λ o. option_map_or (is_out_of_sync b.role) o false) (alike.paths path shows.shown ∙ shows.leads)) ∙ alike.out path shows.shown
        ∙ ap (λ o. option_map_or (is_out_of_sync a.role) o false) shows.leads ∙ shows.in_sync;
  }

looks_through : (a b c : FilesetSlot) → LooksLikeSlot a b → LooksLikeSlot b c → LooksLikeSlot a c
looks_through a b c first second = record {
  of = second.of ∙ first.of;
  original = λ original. second.original (ap (λ (s : FilesetSlot). s.role) (first.original original) ∙ original) ∙ first.original original;
  limits = second.limits ∙ first.limits;
  paths = λ path shown. second.paths path (shown_there a b first path shown) ∙ first.paths path shown;
  out = λ path shown. second.out path (shown_there a b first path shown) ∙ first.out path shown;
  kinds = λ path shown. second.kinds path (shown_there a b first path shown) ∙ first.kinds path shown;
  nodes = λ path number shows. second.nodes path number (shows_there a b first path number shows) ∙ first.nodes path number shows;
  links = λ path number shows. second.links path number (shows_there a b first path number shows) ∙ first.links path number shows;
}

-- a clone with another's marks looks like what that looks like, if those agree on what is shown
module _ (whole : Fileset) (slot other : FilesetSlot) (shows : LooksLikeSlot (record slot { tree = whole }) slot) (alike : LooksLikeSlot slot other) where
  abbrev behind : FilesetSlot
  behind = record slot { tree = whole }

  abbrev marked : FilesetSlot
  marked = record other { tree = whole }

  all : LooksLikeSlot behind other
  all = looks_through behind slot other shows alike

  same_marks : (path : Path) → IsShown behind path → is_out_of_sync_at marked path ≡ is_out_of_sync_at behind path
  same_marks path shown = ap (λ o. option_map_or (is_out_of_sync other.role) o false) (sym (all.paths path shown)) ∙ all.out path shown

  shown_behind : (path : Path) → IsShown marked path → IsShown behind path
  shown_behind = shown_as marked behind (λ path shown also. sym (same_marks path also))

  shows_behind : (path : Path) (number : ℕ) → Shows marked path number → Shows behind path number
  shows_behind path number s =
      let shown = shown_behind path s.shown in record {
        shown = shown;
        leads = s.leads;
        in_sync = sym (ap (λ o. option_map_or (is_out_of_sync slot.role) o false) s.leads) ∙ sym (same_marks path shown)
            ∙ ap (λ o. option_map_or (is_out_of_sync other.role) o false) s.leads ∙ s.in_sync;
      }

  with_marks : original_of other.role ≡ original_of slot.role → ¬ other.role ≡ Original → LooksLikeSlot marked other
  with_marks of clone = record {
    of = refl;
    original = λ original. absurd (clone original);
    limits = all.limits;
    paths = λ path s. all.paths path (shown_behind path s);
    out = λ path s. ap (λ o. option_map_or (is_out_of_sync other.role) o false) (all.paths path (shown_behind path s));
    kinds = λ path s. all.kinds path (shown_behind path s);
    nodes = λ path number s. all.nodes path number (shows_behind path number s);
    links = λ path number s. all.links path number (shows_behind path number s);
  }

-- a fileset that looks like a valid one is valid
alike_slot-valid : (slot other : FilesetSlot) (role role' : Role) → slot.role ≡ role → other.role ≡ role' → LooksLikeSlot slot other → IsValidAs role slot → IsValidAs role' other
alike_slot-valid slot other Original Original is was alike valid = subst (λ (s : FilesetSlot). IsValidAs Original s) (sym (alike.original is)) valid
alike_slot-valid slot other Original (CloneOf original out) is was alike valid =
    absurd (none≢some original (sym (ap original_of is) ∙ sym alike.of ∙ ap original_of was))
alike_slot-valid slot other (CloneOf original out) Original is was alike valid =
    absurd (none≢some original (sym (ap original_of was) ∙ alike.of ∙ ap original_of is))
alike_slot-valid slot other (CloneOf original out) (CloneOf other_original lost) is was alike valid = record {
  whole = valid.whole;
  valid = valid.valid;
  shows = with_marks valid.whole slot other valid.shows alike alike.of (λ original'. none≢some other_original (sym (ap original_of original') ∙ ap original_of was));
}

-- ---- filesets that have the same names, originals and clones

-- a fileset is what another was, but for marks
record Follows (before slot : FilesetSlot) : Type 0 where
  role : original_of slot.role ≡ original_of before.role
  valid : IsValidSlot before → IsValidSlot slot

abbrev FollowsThere : Option FilesetSlot → Option FilesetSlot → Type 0
FollowsThere None found = found ≡ None
FollowsThere (Some before) found = IsSomeAnd found (Follows before)

abbrev AllFollow : FilesetMap → FilesetMap → Type 0
AllFollow old new = (name : Name) → FollowsThere (map.get old name) (map.get new name)

clone_of : (role : Role) (original : Name) → original_of role ≡ Some original → (out : NumberSet) × (role ≡ CloneOf original out)
clone_of Original original is = absurd (none≢some original is)
clone_of (CloneOf name out) original is = (out, ap (λ o. CloneOf (unwrap_or o name) out) is)

no_clone_of : (role : Role) → original_of role ≡ None → role ≡ Original
no_clone_of Original is = refl
no_clone_of (CloneOf name out) is = absurd (none≢some name (sym is))

abbrev key_alone : FilesetSlot → ℕ
key_alone slot = zero

module _ (old new : FilesetMap) (follow : AllFollow old new) where
  came_from : (name : Name) (slot : FilesetSlot) → map.get new name ≡ Some slot → (before : FilesetSlot) × (map.get old name ≡ Some before) × Follows before slot
  came_from name slot is = at (map.get old name) refl (subst (λ o. FollowsThere (map.get old name) o) is (follow name))
    where
      at : (o : Option FilesetSlot) → map.get old name ≡ o → FollowsThere o (Some slot) → (before : FilesetSlot) × (map.get old name ≡ Some before) × Follows before slot
      at None was none = absurd (none≢some slot (sym none))
      at (Some before) was there = (before, was, there)

  goes_on : (name : Name) (before : FilesetSlot) → map.get old name ≡ Some before → (slot : FilesetSlot) × (map.get new name ≡ Some slot) × Follows before slot
  goes_on name before was = at (map.get new name) refl (subst (λ o. FollowsThere o (map.get new name)) was (follow name))
    where
      at : (o : Option FilesetSlot) → map.get new name ≡ o → FollowsThere (Some before) o → (slot : FilesetSlot) × (map.get new name ≡ Some slot) × Follows before slot
      at None is none = absurd none
      at (Some slot) is there = (slot, is, there)

  as_many : map.len new ≡ map.len old
  as_many =
      let keys : images name_cmp key_alone (map.entries new) ≡ images name_cmp key_alone (map.entries old) =
      sym (ap (images name_cmp key_alone) (where_all name_cmp (map.entries new)))
      ∙ same_images name_cmp name_cmp-total name_cmp-IsAntisymmetric key_alone key_alone (λ _. true) new old (λ q _. same q)
      ∙ ap (images name_cmp key_alone) (where_all name_cmp (map.entries old)) in
      map.len-entries new ∙ sym (length-map (map.entries new) (λ (e : Name × FilesetSlot). (e.0, zero))) ∙ ap length keys
      ∙ length-map (map.entries old) (λ (e : Name × FilesetSlot). (e.0, zero)) ∙ sym (map.len-entries old)
    where
      same : (q : Name) → option_map key_alone (map.get new q) ≡ option_map key_alone (map.get old q)
      same q = elim (map.get old q) as (λ o. map.get old q ≡ o → option_map key_alone (map.get new q) ≡ option_map key_alone o) [
        | None ↦ λ none. elim (map.get new q) as (λ o. map.get new q ≡ o → option_map key_alone o ≡ None) [
          | None ↦ λ is. refl
          | Some slot ↦ λ is. let was = came_from q slot is in absurd (none≢some was.0 (sym none ∙ was.1))
        ] refl
        | Some before ↦ λ was. ap (option_map key_alone) (goes_on q before was).1
      ] refl

  following-valid : AreValid old → AreValid new
  following-valid v = record {
    few = subst (λ n. n ≤ max_filesets) (sym as_many) v.few;
    each = λ name slot is. let was = came_from name slot is in was.2.valid (v.each name was.0 was.1);
    originals = λ name original slot out is role.
        let was = came_from name slot is in
        let clone = clone_of was.0.role original (sym was.2.role ∙ ap original_of role) in
        let of = from_some_and (λ (s : FilesetSlot). s.role ≡ Original) (map.get old original) (v.originals name original was.0 clone.0 was.1 clone.1) in
        let now = goes_on original of.0 of.1 in
        to_some_and (λ (s : FilesetSlot). s.role ≡ Original) (map.get new original) now.0 now.1 (no_clone_of now.0.role (now.2.role ∙ ap original_of of.2));
    one_clone = λ p q original slot other out out' at_p at_q role role'.
        let was = came_from p slot at_p in
        let also = came_from q other at_q in
        let clone = clone_of was.0.role original (sym was.2.role ∙ ap original_of role) in
        let second = clone_of also.0.role original (sym also.2.role ∙ ap original_of role') in
        v.one_clone p q original was.0 also.0 clone.0 second.0 was.1 also.1 clone.1 second.1;
  }

-- ---- filesets that look alike, and filesets that gained marks

pub alike-valid : (all other : FilesetMap) → LooksLike all other → AreValid all → AreValid other
alike-valid all other alike v = following-valid all other (λ name. at (map.get all name) (map.get other name) (alike name)) v
  where
    at : (o o' : Option FilesetSlot) → LooksLikeThere o o' → FollowsThere o o'
    at None o' none = none
    at (Some slot) None there = absurd there
    at (Some slot) (Some slot') like = record {
      role = like.of;
      valid = λ valid. alike_slot-valid slot slot' slot.role slot'.role refl refl like valid;
    }

module _ (original : Name) (out out' : NumberSet) (more : (number : ℕ) → IsTrue (map.contains_key out number) → IsTrue (map.contains_key out' number)) where
  -- what is not marked with more marks is not with fewer
  fewer_marks : (o : Option ℕ) → option_map_or (map.contains_key out') o false ≡ false → option_map_or (map.contains_key out) o false ≡ false
  fewer_marks None unmarked = refl
  fewer_marks (Some number) unmarked = elim (map.contains_key out number) as (λ b. map.contains_key out number ≡ b → b ≡ false) [
    | true ↦ λ marked. absurd (true≢false (sym (more number marked) ∙ unmarked))
    | false ↦ λ _. refl
  ] refl

  more_marks : (tree tree' : Fileset) → LooksLikeSlot (record { tree = tree; role = CloneOf original out }) (record { tree = tree'; role = CloneOf original out })
      → LooksLikeSlot (record { tree = tree; role = CloneOf original out' }) (record { tree = tree'; role = CloneOf original out' })
  more_marks tree tree' alike =
      let slot : FilesetSlot = record { tree = tree; role = CloneOf original out } in
      let slot' : FilesetSlot = record { tree = tree; role = CloneOf original out' } in
      let shown : (path : Path) → IsShown slot' path → IsShown slot path = λ path shows count below. fewer_marks (map.get tree.paths (take count path)) (shows count below) in
      let shows : (path : Path) (number : ℕ) → Shows slot' path number → Shows slot path number = λ path number s. record {
        shown = shown path s.shown;
        leads = s.leads;
        in_sync = fewer_marks (Some number) s.in_sync;
      } in
      record {
        of = refl;
        original = λ is. absurd (none≢some original (sym (ap original_of is)));
        limits = alike.limits;
        paths = λ path s. alike.paths path (shown path s);
        out = λ path s. ap (λ o. option_map_or (map.contains_key out') o false) (alike.paths path (shown path s));
        kinds = λ path s. alike.kinds path (shown path s);
        nodes = λ path number s. alike.nodes path number (shows path number s);
        links = λ path number s. alike.links path number (shows path number s);
      }

-- a fileset that gained marks is valid where it was
gained_slot : (Allowed : Name → FilesetSlot → ℕ → Type 0) (tree : Fileset) (role role' : Role) (slot : FilesetSlot)
    → RoleGains Allowed slot role role' → IsValidAs role (record { tree = tree; role = role }) → IsValidAs role' (record { tree = tree; role = role' })
gained_slot Allowed tree Original role' slot gains valid = subst (λ r. IsValidAs r (record { tree = tree; role = r })) (sym gains) valid
gained_slot Allowed tree (CloneOf original out) Original slot gains valid = absurd gains
gained_slot Allowed tree (CloneOf original out) (CloneOf original' out') slot gains valid =
    subst (λ n. IsValidClone (record { tree = tree; role = CloneOf n out' })) gains.0 (record {
      whole = valid.whole;
      valid = valid.valid;
      shows = more_marks original out out' gains.1 valid.whole tree valid.shows;
    })

gained_role : (Allowed : Name → FilesetSlot → ℕ → Type 0) (role role' : Role) (slot : FilesetSlot) → RoleGains Allowed slot role role' → original_of role' ≡ original_of role
gained_role Allowed Original role' slot gains = ap original_of gains
gained_role Allowed (CloneOf original out) Original slot gains = absurd gains
gained_role Allowed (CloneOf original out) (CloneOf original' out') slot gains = ap Some (sym gains.0)

pub marked-valid : (Allowed : Name → FilesetSlot → ℕ → Type 0) (old new : FilesetMap) → GainsMarks Allowed old new → AreValid old → AreValid new
marked-valid Allowed old new gains v = following-valid old new (λ name. at (map.get old name) (map.get new name) (gains name)) v
  where
    at : (o o' : Option FilesetSlot) → SlotGains Allowed o o' → FollowsThere o o'
    at None o' none = none
    at (Some slot) None there = absurd there
    at (Some slot) (Some slot') gained = record {
      role = gained_role Allowed slot.role slot'.role slot gained.1;
      valid = λ valid. subst (λ t. IsValidAs slot'.role (record { tree = t; role = slot'.role })) (sym gained.0) (gained_slot Allowed slot.tree slot.role slot'.role slot gained.1 valid);
    }

-- A file that is new, whose bytes change, or that is described anew.
use Rattle.std.proofs.Common.{◌≡◌, ◌≢◌, ◌∙◌, ℕ, ◌<◌, Bool, true, false, cond, Option, Some, None, nat_lt, refl, sym, ap, subst, ⊎_elim}
use Rattle.std.proofs.lemmas.Bool.{cases_eq, eq-eqb, ne_eqb, lt-ltb}
use Rattle.std.specs.Cmp.{nat_cmp_total}
use Rattle.std.specs.Ordering.{nat_cmp}
use Rattle.std.specs.FinMap.{get, insert, get-empty, nat_cmp-IsAntisymmetric}
use Rattle.std.specs.Option.{option_map}
use Rattle.standing_laws.specs.domain_base.declared.place.Home.{Home}
use Rattle.standing_laws.specs.domain_base.declared.place.Kind.{Kind}
use Rattle.standing_laws.specs.domain_base.declared.place.Kind.TheVariants as kind
use Rattle.standing_laws.specs.domain_base.declared.place.Tag.{Tag}
use Rattle.standing_laws.specs.extent_maps.declared.run.PagePlace.TheVariants.{Absent, At}
use Rattle.standing_laws.specs.extent_maps.Runs.{home_at}
use Rattle.standing_laws.specs.fileset_files.declared.attributes.Attributes.{Attributes}
use Rattle.standing_laws.specs.fileset_files.declared.new_cells.NewFile.{NewFile}
use Rattle.standing_laws.specs.fileset_files.State.{FileState}
use Rattle.standing_laws.specs.fileset_files.States.{described, new_state, placed}
use Rattle.standing_laws.specs.fileset_model.Apply.{flagged_node}
use Rattle.standing_laws.specs.fileset_model.Pages.{Pages}
use Rattle.standing_laws.specs.fileset_model.declared.node.Node.{Node}
use Rattle.standing_laws.specs.fileset_model.declared.node.Node.TheVariants.{Directory, File}
use Rattle.standing_laws.proofs.OfFilesetValues.MapLemmas.{get-insert_same, get-insert_other}
use Rattle.standing_laws.specs.name_space.Changes.{new_node}
use Rattle.standing_laws.specs.domain_layout.Filled.{Contents, IsFilled}
use Rattle.standing_laws.specs.domain_layout.Seen.{SeenFile}
use Rattle.standing_laws.specs.domain_layout.Agreeing.{AgreeOnFile}
use Rattle.set_standing.specs.Nodes.{AgreeBut, IsSameOwner, seen_of, with_page, with_size}

pub same_bytes : (one other : Contents) (place : Option Home) → ((home : Home) → place ≡ Some home → one home ≡ other home) → option_map one place ≡ option_map other place
same_bytes one other None agree = refl
same_bytes one other (Some home) agree = ap Some (agree home refl)

pub agree_on : (one other : Contents) (seen : SeenFile) (node : Node) → AgreeOnFile one other seen → IsFilled one seen node → IsFilled other seen node
agree_on one other seen (File uid gid size logged pages) agree is =
    (is.0, is.1, is.2, is.3, is.4, (λ page. is.5 page ∙ same_bytes one other (seen.homes page) (agree page)))
agree_on one other seen (Directory uid gid) agree is = is

-- ---- a new file

no_home : (b : Bool) → home_at (cond b Absent Absent) ≡ None
no_home b = elim b as (λ x. home_at (cond x Absent Absent) ≡ None) [ true ↦ refl | false ↦ refl ]

pub new_file : (contents : Contents) (what : NewFile) (tag : Tag) → IsFilled contents (seen_of (new_state what tag)) (new_node what.kind what.uid what.gid)
new_file contents what tag = by_kind what.kind refl
  where
    by_kind : (of : Kind) → what.kind ≡ of → IsFilled contents (seen_of (new_state what tag)) (new_node of what.uid what.gid)
    by_kind kind.File is =
        (is, refl, refl, refl, refl, (λ page. get-empty nat_cmp page ∙ sym (ap (option_map contents) (no_home (nat_lt page 65536)))))
    by_kind kind.Directory is = (is, refl, refl)

-- ---- a page more, or other bytes

module _ (contents now : Contents) (old new : SeenFile) (page : ℕ) (home : Home) (is : new.is ≡ old.is) (there : new.homes page ≡ Some home)
    (others : (q : ℕ) → q ≢ page → option_map now (new.homes q) ≡ option_map contents (old.homes q)) where
  each_page : (pages : Pages) → ((q : ℕ) → get pages q ≡ option_map contents (old.homes q)) → (q : ℕ) → get (insert pages page (now home)) q ≡ option_map now (new.homes q)
  each_page pages was q = ⊎_elim
      (λ same. subst (λ p. get (insert pages page (now home)) p ≡ option_map now (new.homes p)) (sym same)
      (get-insert_same nat_cmp_total nat_cmp-IsAntisymmetric pages page (now home) ∙ sym (ap (option_map now) there)))
      (λ other. get-insert_other nat_cmp_total nat_cmp-IsAntisymmetric pages page (now home) q other ∙ was q ∙ sym (others q other)) (cases_eq q page)

  pub put : (node : Node) → IsFilled contents old node → IsFilled now new (with_page page (now home) node)
  put (File uid gid size logged pages) was = (
    ap (λ (a : Attributes). a.kind) is ∙ was.0,
    ap (λ (a : Attributes). a.uid) is ∙ was.1,
    ap (λ (a : Attributes). a.gid) is ∙ was.2,
    ap (λ (a : Attributes). a.size) is ∙ was.3,
    ap (λ (a : Attributes). a.is_logged) is ∙ was.4,
    each_page pages was.5,
  )
  put (Directory uid gid) was = (ap (λ (a : Attributes). a.kind) is ∙ was.0, ap (λ (a : Attributes). a.uid) is ∙ was.1, ap (λ (a : Attributes). a.gid) is ∙ was.2)

pub written : (contents now : Contents) (seen : SeenFile) (page : ℕ) (home : Home) (node : Node) → seen.homes page ≡ Some home → AgreeBut page contents now seen →
    IsFilled contents seen node → IsFilled now seen (with_page page (now home) node)
written contents now seen page home node there agree was =
    put contents now seen seen page home refl there (λ q other. sym (same_bytes contents now (seen.homes q) (λ h at. agree q h other at))) node was

module _ (contents now : Contents) (state : FileState) (page : ℕ) (home : Home) (within : page < state.keep) (agree : AgreeBut page contents now (seen_of state)) where
  placed_there : (seen_of (placed page (At home) state)).homes page ≡ Some home
  placed_there =
      (λ i. home_at (cond (lt-ltb page state.keep within i) (cond (eq-eqb page page refl i) (At home) (state.places page)) Absent))

  placed_others : (q : ℕ) → q ≢ page → option_map now ((seen_of (placed page (At home) state)).homes q) ≡ option_map contents ((seen_of state).homes q)
  placed_others q other =
      (λ i. option_map now (home_at (cond (nat_lt q state.keep) (cond (ne_eqb q page other i) (At home) (state.places q)) Absent)))
      ∙ sym (same_bytes contents now ((seen_of state).homes q) (λ h at. agree q h other at))

  pub joined : (node : Node) → IsFilled contents (seen_of state) node → IsFilled now (seen_of (placed page (At home) state)) (with_page page (now home) node)
  joined node was = put contents now (seen_of state) (seen_of (placed page (At home) state)) page home refl placed_there placed_others node was

-- ---- described anew

pub described_as : (contents : Contents) (state : FileState) (value : Attributes) (node : Node) → IsSameOwner state.attributes value → IsFilled contents (seen_of state) node →
    IsFilled contents (seen_of (described value state)) (with_size value.size value.is_logged node)
described_as contents state value (File uid gid size logged pages) same was =
    (sym same.kind ∙ was.0, sym same.uid ∙ was.1, sym same.gid ∙ was.2, refl, refl, was.5)
described_as contents state value (Directory uid gid) same was = (sym same.kind ∙ was.0, sym same.uid ∙ was.1, sym same.gid ∙ was.2)

pub flagged : (contents : Contents) (state : FileState) (flag : Bool) (node : Node) → IsFilled contents (seen_of state) node →
    IsFilled contents (seen_of (described (record state.attributes { is_logged = flag }) state)) (flagged_node flag node)
flagged contents state flag (File uid gid size logged pages) was = (was.0, was.1, was.2, was.3, refl, was.5)
flagged contents state flag (Directory uid gid) was = was

pub relinked : (contents : Contents) (state : FileState) (links : ℕ) (node : Node) → IsFilled contents (seen_of state) node →
    IsFilled contents (seen_of (described (record state.attributes { links = links }) state)) node
relinked contents state links (File uid gid size logged pages) was = was
relinked contents state links (Directory uid gid) was = was

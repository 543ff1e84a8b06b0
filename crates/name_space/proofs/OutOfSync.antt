-- The numbers of what paths lead to and the set does not have.
use Rattle.std.proofs.Common.{◌≡◌, ◌≢◌, ◌∙◌, ◌⊎◌, inl, inr, ⊎_elim, ℕ, ◌+◌, ◌<◌, ◌↔◌, true, false, not, ◌&&◌, List, [], ◌∷◌, length, Option, Some, None, IsSomeAnd, is_some, slice_get, refl, sym, ap, subst, arith, true≢false}
use Rattle.std.proofs.lemmas.Bool.{and_parts, cases_lt}
use Rattle.std.proofs.lemmas.Option.{slice_get_within}
use Rattle.std.specs.Cmp.{nat_cmp_total}
use Rattle.std.specs.FinMap as map
use Rattle.std.specs.FinSet.{FinSet}
use Rattle.std.specs.Ordering.{nat_cmp}
use Rattle.plain_program.specs.domain_base.declared.place.Kind.{Kind}
use Rattle.plain_program.specs.domain_base.declared.place.Kind.TheVariants.{Directory}
use Rattle.plain_program.specs.domain_base.declared.place.Tag.{Tag}
use Rattle.directory_rows.specs.page_store.Bitfiles.{Bitfile, Bitfiles}
use Rattle.plain_program.proofs.OfLegalHistories.ValidLemmas.{some_inj}
use Rattle.plain_program.proofs.OfFilesetValues.MapLemmas.{get-insert_other, get-insert_same, got-insert}
use Rattle.plain_program.specs.fileset_values.Orders.{Path}
use Rattle.name_space.specs.Names.{is_directory_kind, led_to, number_of, root_tag}
use Rattle.directory_rows.specs.declared.led.Led.{Led}
use Rattle.name_space.specs.Parts.{IsNodeFor, IsNodeThere, node_in}
use Rattle.name_space.specs.Rows.{AreAllThere}
use Rattle.name_space.specs.Trees.{AreAllOf, AreMissing, IsFoundMissing, IsMissing, IsReached}
use Rattle.name_space.specs.declared.parts.TaggedNode.{TaggedNode}
use Rattle.name_space.proofs.Counted.{kind_is, led_in, led_out}

-- one of those before a place is missing, and has that number
pub record IsOut (nodes : List TaggedNode) (led : List Led) (count number : ℕ) : Type 0 where
  pub k : ℕ
  pub one : Led
  pub low : k < count
  pub there : slice_get led k ≡ Some one
  pub lost : node_in nodes one.tag ≡ None
  pub is : number ≡ number_of one.tag

pub record AreOut (nodes : List TaggedNode) (led : List Led) (count : ℕ) (out : FinSet nat_cmp) : Type 0 where
  pub each : (number : ℕ) → (map.contains_key out number ≡ true) ↔ IsOut nodes led count number

none_is_some : {P X : Type 0} (x : X) → None ≡ Some x → P
none_is_some x is = absurd (cc)

some_key : (out : FinSet nat_cmp) (number : ℕ) → map.contains_key out number ≡ true → map.get out number ≡ Some tt
some_key out number is = by_value (map.get out number) refl is
  where
    by_value : (o : Option (Unit {0})) → map.get out number ≡ o → is_some o ≡ true → o ≡ Some tt
    by_value None none is = absurd cc
    by_value (Some u) some is = refl

pub out_first : (nodes : List TaggedNode) (led : List Led) → AreOut nodes led 0 map.empty
out_first nodes led = record {
  each = λ number. (λ is. none_is_some tt (sym (map.get-empty nat_cmp number) ∙ some_key map.empty number is), λ out. absurd (omega (arith, out.low)));
}

module _ (nodes : List TaggedNode) (led : List Led) (count : ℕ) (out : FinSet nat_cmp) (are : AreOut nodes led count out) (one : Led) (there : slice_get led count ≡ Some one) where
  later : (number : ℕ) → IsOut nodes led count number → IsOut nodes led (count + 1) number
  later number is = record { k = is.k; one = is.one; low = omega (arith, is.low); there = is.there; lost = is.lost; is = is.is }

  before : {P : Type 0} (number : ℕ) (is : IsOut nodes led (count + 1) number) → (IsOut nodes led count number → P) → (one ≡ is.one → P) → P
  before number is early last = ⊎_elim
      (λ low. early (record { k = is.k; one = is.one; low = low; there = is.there; lost = is.lost; is = is.is }))
      (λ high.
      let same : count ≡ is.k = omega (arith, is.low, high) in
      last (some_inj (sym there ∙ ap (slice_get led) same ∙ is.there)))
      (cases_lt is.k count)

  pub out_stays : is_some (node_in nodes one.tag) ≡ true → AreOut nodes led (count + 1) out
  out_stays has = record {
    each = λ number. (
      λ is. later number ((are.each number).0 is),
      λ is. before number is (are.each number).1 (λ last.
          let e : is_some (node_in nodes one.tag) ≡ false = ap (λ (l : Led). is_some (node_in nodes l.tag)) last ∙ ap is_some is.lost in
          absurd (true≢false (sym has ∙ e))),
    );
  }

  pub out_more : node_in nodes one.tag ≡ None → AreOut nodes led (count + 1) (map.insert out (number_of one.tag) tt)
  out_more lost = record {
    each = λ number. (
      λ is. elim (got-insert nat_cmp_total map.nat_cmp-IsAntisymmetric out (number_of one.tag) tt number _ (some_key (map.insert out (number_of one.tag) tt) number is))
          as (λ _. IsOut nodes led (count + 1) number) [
            | inl here ↦ record { k = count; one = one; low = omega arith; there = there; lost = lost; is = here.0 }
            | inr other ↦ later number ((are.each number).0 (ap is_some other.1))
          ],
      λ is. elim (got-insert nat_cmp_total map.nat_cmp-IsAntisymmetric out (number_of one.tag) tt number _ refl)
          as (λ _. map.contains_key (map.insert out (number_of one.tag) tt) number ≡ true) [
            | inl here ↦ ap is_some here.1
            | inr other ↦ before number is
                (λ early. ap is_some (sym other.1) ∙ (are.each number).1 early)
                (λ last. absurd (other.0 (is.is ∙ ap (λ (l : Led). number_of l.tag) (sym last))))
          ],
    );
  }

module _ (files : Bitfiles) (nodes : List TaggedNode) (led : List Led) (are : AreAllOf files nodes led) where
  -- a node that is not there is that of no file
  pub lost_file : (tag : Tag) → node_in nodes tag ≡ None → files tag ≡ None
  lost_file tag none = by_file (files tag) (subst (IsNodeThere (files tag)) none (are.has.each tag))
    where
      by_file : (o : Option Bitfile) → IsNodeThere o None → o ≡ None
      by_file None is = refl
      by_file (Some file) is = absurd is

  pub file_lost : (tag : Tag) → files tag ≡ None → node_in nodes tag ≡ None
  file_lost tag none = subst (λ o. IsNodeThere o (node_in nodes tag)) none (are.has.each tag)

  pub all_out : (out : FinSet nat_cmp) → AreOut nodes led (length led) out → AreMissing files out
  all_out out is = record {
    each = λ number. (
      λ has.
          let o = (is.each number).0 has in
          (o.one.tag, o.one.kind, o.is, (o.one.path, led_out files nodes led are o.k o.one o.there), lost_file o.one.tag o.lost),
      λ lost.
          let way = lost.3 in
          let k = led_in files nodes led are way.0 lost.0 lost.1 way.1 in
          let one : Led = record { path = way.0; tag = lost.0; kind = lost.1 } in
          (is.each number).1 (record { k = k.0; one = one; low = slice_get_within led k.0 one k.1; there = k.1; lost = file_lost lost.0 lost.4; is = lost.2 }),
    );
  }

  -- no directory is missing where each in the list is there
  pub none_missing : ((k : ℕ) (one : Led) → k < length led → slice_get led k ≡ Some one → one.kind ≡ Directory → is_some (node_in nodes one.tag) ≡ true) → AreAllThere files
  none_missing all = record { root = there [] root_tag refl; reached = there }
    where
      has : (tag : Tag) (o : Option Bitfile) → files tag ≡ o → is_some (node_in nodes tag) ≡ true → is_some o ≡ true
      has tag (Some file) is is_there = refl
      has tag None is is_there = absurd (true≢false (sym is_there ∙ ap is_some (file_lost tag is)))

      there : (path : Path) (tag : Tag) → led_to files path ≡ Some (tag, Directory) → is_some (files tag) ≡ true
      there path tag leads =
          let k = led_in files nodes led are path tag Directory leads in
          let one : Led = record { path = path; tag = tag; kind = Directory } in
          has tag (files tag) refl (all k.0 one (slice_get_within led k.0 one k.1) k.1 refl)

-- one more that is there, if it is a directory
pub seen_more : (nodes : List TaggedNode) (led : List Led) (count : ℕ)
    → ((k : ℕ) (one : Led) → k < count → slice_get led k ≡ Some one → one.kind ≡ Directory → is_some (node_in nodes one.tag) ≡ true)
    → (next : Led) → slice_get led count ≡ Some next → (next.kind ≡ Directory → is_some (node_in nodes next.tag) ≡ true)
    → (k : ℕ) (one : Led) → k < count + 1 → slice_get led k ≡ Some one → one.kind ≡ Directory → is_some (node_in nodes one.tag) ≡ true
seen_more nodes led count before next there is k one low at kind = ⊎_elim
    (λ early. before k one early at kind)
    (λ high.
    let same : count ≡ k = omega (arith, low, high) in
    let last : next ≡ one = some_inj (sym there ∙ ap (slice_get led) same ∙ at) in
    subst (λ (l : Led). is_some (node_in nodes l.tag) ≡ true) last (is (ap (λ (l : Led). l.kind) last ∙ kind)))
    (cases_lt k count)

pub no_node : (nodes : List TaggedNode) (tag : Tag) → not (is_some (node_in nodes tag)) ≡ true → node_in nodes tag ≡ None
no_node nodes tag is = by_node (node_in nodes tag) is
  where
    by_node : (o : Option TaggedNode) → not (is_some o) ≡ true → o ≡ None
    by_node None is = refl
    by_node (Some one) is = absurd cc

pub some_node : (nodes : List TaggedNode) (tag : Tag) → not (is_some (node_in nodes tag)) ≡ false → is_some (node_in nodes tag) ≡ true
some_node nodes tag is = by_node (node_in nodes tag) is
  where
    by_node : (o : Option TaggedNode) → not (is_some o) ≡ false → is_some o ≡ true
    by_node None is = absurd cc
    by_node (Some one) is = refl

pub there_or : (nodes : List TaggedNode) (one : Led) → is_directory_kind one.kind && not (is_some (node_in nodes one.tag)) ≡ false → one.kind ≡ Directory → is_some (node_in nodes one.tag) ≡ true
there_or nodes one is kind = some_node nodes one.tag (ap (λ (k : Kind). is_directory_kind k && not (is_some (node_in nodes one.tag))) (sym kind) ∙ is)

pub missing_there : (files : Bitfiles) (nodes : List TaggedNode) (led : List Led) → AreAllOf files nodes led → (k : ℕ) (one : Led) → slice_get led k ≡ Some one
    → is_directory_kind one.kind && not (is_some (node_in nodes one.tag)) ≡ true → IsMissing files one.path
missing_there files nodes led are k one there is =
    let parts = and_parts (is_directory_kind one.kind) (not (is_some (node_in nodes one.tag))) is in (
      one.tag,
      led_out files nodes led are k one there ∙ ap (λ (of : Kind). Some (one.tag, of)) (kind_is one.kind parts.0),
      lost_file files nodes led are one.tag (no_node nodes one.tag parts.1),
    )

-- Paths below a directory that is missing, of files that have more links than paths.
use Rattle.std.proofs.Common.{◌≡◌, ◌≢◌, ◌∙◌, ◌⊎◌, inl, inr, ⊎_elim, ℕ, ◌+◌, ◌^◌, ◌<◌, ◌≤◌, ◌==◌, true, false, cond, List, [], ◌∷◌, length, Option, Some, None, IfSome, IsSome, IsSomeAnd, is_some, Contains, refl, sym, ap, subst, arith, Bool, eqb-true, true≢false}
use Rattle.std.proofs.lemmas.Bool.{eq-eqb}
use Rattle.std.proofs.lemmas.Nat.{from_be_bytes-to_be_bytes_8}
use Rattle.std.specs.Cmp.{nat_cmp_total}
use Rattle.std.specs.FinMap as map
use Rattle.std.specs.Int.{from_be_bytes, to_be_bytes}
use Rattle.std.specs.Int.Width.{w64}
use Rattle.std.specs.Option.{option_map_or}
use Rattle.plain_program.specs.domain_base.declared.place.Kind.{Kind}
use Rattle.plain_program.specs.domain_base.declared.place.Kind.TheVariants.{Directory, File}
use Rattle.plain_program.specs.domain_base.declared.place.Tag.{Tag}
use Rattle.directory_rows.specs.page_store.Bitfiles.{Bitfile, Bitfiles}
use Rattle.plain_program.proofs.OfLegalHistories.ValidLemmas.{from_some_and, some_inj}
use Rattle.plain_program.proofs.OfFilesetValues.MapLemmas.{get-insert_other, got-insert}
use Rattle.plain_program.specs.fileset_model.Apply.{with_node}
use Rattle.plain_program.specs.fileset_model.Fileset.{Fileset}
use Rattle.plain_program.specs.fileset_values.Orders.{Path, path_cmp, path_cmp-total, path_cmp-IsAntisymmetric}
use Rattle.plain_program.specs.fileset_model.Paths.{paths_to}
use Rattle.plain_program.specs.fileset_model.declared.node.Node.{Node}
use Rattle.name_space.specs.Names.{led_to, number_of}
use Rattle.name_space.proofs.PathCounts.{count-gone, count-new, count_of}
use Rattle.directory_rows.specs.declared.led.Led.{Led}
use Rattle.name_space.specs.Parts.{IsNodeFor, IsNodeThere, node_for, node_in}
use Rattle.name_space.specs.Rows.{IsCounted, NameIn}
use Rattle.name_space.specs.Trees.{AreAllOf, HasFewPaths, HasItsPaths, Hides, IsHiding, IsMissing, IsReached, IsTreeOf, IsWay, KeepsPaths, hidden_below, most_paths}
use Rattle.name_space.specs.declared.parts.TaggedNode.{TaggedNode}
use Rattle.name_space.proofs.Counted.{itself}
use Rattle.name_space.proofs.OneWay.{led_kind, led_seq, one_number, row_led, same_names}
use Rattle.name_space.proofs.Originals.{one_tag}

none_is_some : {P X : Type 0} (x : X) → None ≡ Some x → P
none_is_some x is = absurd (cc)

eqb_same : (a b : ℕ) → a == b ≡ true → a ≡ b
eqb_same a b same = eqb-true a b same

eqb_other : (a b : ℕ) → a == b ≡ false → a ≢ b
eqb_other a b differs same = true≢false (sym (eq-eqb a b same) ∙ differs)

-- the numbers of hidden paths are apart
same_hidden : (below : Path) (a b : ℕ) → a < 2 ^ 64 → b < 2 ^ 64 → hidden_below below a ≡ hidden_below below b → a ≡ b
same_hidden below a b low low' same =
    sym (from_be_bytes-to_be_bytes_8 a low)
    ∙ ap (from_be_bytes w64) (same_names below below (to_be_bytes w64 a) (to_be_bytes w64 b) same)
    ∙ from_be_bytes-to_be_bytes_8 b low'

-- with none hidden it is the same below any path
pub below_any : (files : Bitfiles) (nodes : List TaggedNode) (below other : Path) (tree : Fileset) → IsTreeOf files nodes below 0 tree → IsTreeOf files nodes other 0 tree
below_any files nodes below other tree is = record {
  paths = is.paths;
  only = λ path number leads.
      let o = is.only path number leads in
      (o.0, o.1, o.2, o.3, ⊎_elim (λ led. inl led) (λ hidden. absurd (omega (arith, hidden.3))) o.4);
  held = is.held;
  named = is.named;
  limits = is.limits;
}

module _ (files : Bitfiles) (nodes : List TaggedNode) (led : List Led) (are : AreAllOf files nodes led) (below : Path) where
  -- nothing leads below a directory that is missing
  hidden_unled : {P : Type 0} → IsMissing files below → (number : ℕ) (tag : Tag) (of : Kind) → led_to files (hidden_below below number) ≡ Some (tag, of) → P
  hidden_unled missing number tag of leads =
      let row = row_led files are.good below (to_be_bytes w64 number) tag of leads in
      let same : missing.0 ≡ row.0 = ap (λ (p : Tag × Kind). p.0) (some_inj (sym missing.1 ∙ row.2)) in
      let dir = from_some_and (λ (f : Bitfile). f.kind ≡ Directory) (files row.0) (are.good.inside (record { dir = row.0; name = to_be_bytes w64 number }) (ap is_some row.3)) in
      none_is_some dir.0 (sym missing.2 ∙ ap files same ∙ dir.1)

  hidden_fresh : (count : ℕ) (tree : Fileset) → IsHiding files nodes below count tree → count < 2 ^ 64 → map.get tree.paths (hidden_below below count) ≡ None
  hidden_fresh count tree hides low = by_number (map.get tree.paths (hidden_below below count)) refl
    where
      by_number : (o : Option ℕ) → map.get tree.paths (hidden_below below count) ≡ o → o ≡ None
      by_number None is = refl
      by_number (Some number) is =
          let o = hides.is.only (hidden_below below count) number is in
          ⊎_elim
          (λ leads. hidden_unled hides.missing count o.0 o.1 leads)
          (λ hidden.
          let same : count ≡ hidden.2 = same_hidden below count hidden.2 low (omega (arith, low, hidden.3)) hidden.4 in
          absurd (omega (arith, same, hidden.3)))
          o.4

  module _ (one : TaggedNode) (among : Contains nodes one) where
    -- the file of a node
    pub file_of : (file : Bitfile) × (files one.tag ≡ Some file) × IsNodeFor file one
    file_of = by_file (files one.tag) refl (subst (IsNodeThere (files one.tag)) (are.has.once one among) (are.has.each one.tag))
      where
        by_file : (o : Option Bitfile) → files one.tag ≡ o → IsNodeThere o (Some one) → (file : Bitfile) × (files one.tag ≡ Some file) × IsNodeFor file one
        by_file None there is = none_is_some one (sym is)
        by_file (Some file) there is = (file, there, is)

    -- the file has this number of links
    pub links_of : most_paths (files one.tag) ≡ one.links
    links_of = ap most_paths file_of.1 ∙ sym file_of.2.links

    node_is : (of : Kind) → node_for nodes one.tag of ≡ one.node
    node_is of = ap (λ (o : Option TaggedNode). option_map_or (λ (n : TaggedNode). n.node) o (node_for [] one.tag of)) (are.has.once one among)

    module _ (count : ℕ) (tree : Fileset) (hides : IsHiding files nodes below count tree) (low : count < 2 ^ 64) (of : Kind) (reached : IsReached files one.tag of)
        (less : paths_to tree (number_of one.tag) < one.links) where
      abbrev number : ℕ
      number = number_of one.tag

      abbrev path : Path
      path = hidden_below below count

      abbrev more : Fileset
      more = with_node path number one.node tree

      some_path : 1 ≤ paths_to tree number
      some_path =
          let gone : count_of number (map.entries tree.paths) ≡ 1 + count_of number (map.entries (map.remove tree.paths reached.0)) =
          count-gone tree.paths reached.0 number number (hides.is.paths reached.0 one.tag of reached.1) ∙ itself number (count_of number (map.entries (map.remove tree.paths reached.0))) in
          omega (arith, gone)

      -- only a file has more links than one
      is_file : of ≡ File
      is_file = by_kind of (λ kind. file_of.2.links ∙ links kind) refl
        where
          links : of ≡ Directory → file_of.0.links ≡ 1
          links kind =
              let counted = are.good.counted one.tag in
              (subst (λ (o : Option Bitfile). IsCounted files o (length counted.0)) file_of.1 counted.2).2 (led_kind files are.good reached.0 one.tag of file_of.0 reached.1 file_of.1 ∙ kind)

          by_kind : (k : Kind) → (k ≡ Directory → one.links ≡ 1) → of ≡ k → k ≡ File
          by_kind File single same = refl
          by_kind Directory single same = let e = single refl in absurd (omega (arith, e, some_path, less))

      fresh : map.get tree.paths path ≡ None
      fresh = hidden_fresh count tree hides low

      -- another path is another than the new one
      other_path : (p : Path) (n : ℕ) → map.get tree.paths p ≡ Some n → p ≢ path
      other_path p n leads same = none_is_some n (sym fresh ∙ ap (map.get tree.paths) (sym same) ∙ leads)

      later : (p : Path) (tag : Tag) (k : Kind) → IsWay files below count p tag k → IsWay files below (count + 1) p tag k
      later p tag k way = ⊎_elim (λ leads. inl leads) (λ hidden. inr (hidden.0, hidden.1, hidden.2, omega (arith, hidden.3), hidden.4)) way

      tree_more : IsTreeOf files nodes below (count + 1) more
      tree_more = record {
        paths = λ p tag k leads.
            let was = hides.is.paths p tag k leads in
            get-insert_other path_cmp-total path_cmp-IsAntisymmetric tree.paths path number p (other_path p (number_of tag) was) ∙ was;
        only = λ p n leads. elim (got-insert path_cmp-total path_cmp-IsAntisymmetric tree.paths path number p _ leads)
            as (λ _. (tag : Tag) × (k : Kind) × (n ≡ number_of tag) × IsReached files tag k × IsWay files below (count + 1) p tag k) [
              | inl here ↦ (one.tag, of, some_inj here.1, reached, inr (is_file, ap is_some file_of.1, count, omega arith, here.0))
              | inr other ↦ let o = hides.is.only p n other.1 in (o.0, o.1, o.2, o.3, later p o.0 o.1 o.4)
            ];
        held = λ tag k way. elim (got-insert nat_cmp_total map.nat_cmp-IsAntisymmetric tree.nodes number one.node (number_of tag) _ refl)
            as (λ _. map.get more.nodes (number_of tag) ≡ Some (node_for nodes tag k)) [
              | inl here ↦
                  let same : tag ≡ one.tag = one_number files are.good way.0 reached.0 tag one.tag k of way.1 reached.1 here.0 in
                  here.1 ∙ ap Some (sym (node_is k)) ∙ ap (λ (t : Tag). Some (node_for nodes t k)) (sym same)
              | inr other ↦ sym other.1 ∙ hides.is.held tag k way
            ];
        named = λ n node leads. elim (got-insert nat_cmp_total map.nat_cmp-IsAntisymmetric tree.nodes number one.node n _ leads)
            as (λ _. (tag : Tag) × (k : Kind) × (n ≡ number_of tag) × IsReached files tag k) [
              | inl here ↦ (one.tag, of, here.0, reached)
              | inr other ↦ hides.is.named n node other.1
            ];
        limits = hides.is.limits;
      }

      pub one_more : paths_to more number ≡ paths_to tree number + 1
      one_more =
          let added : count_of number (map.entries more.paths) ≡ 1 + count_of number (map.entries tree.paths) = count-new tree.paths path number number fresh ∙ itself number (count_of number (map.entries tree.paths)) in
          omega (arith, added)

      pub others_same : (k : ℕ) → k ≢ number → paths_to more k ≡ paths_to tree k
      others_same k other = count-new tree.paths path number k fresh ∙ by_test (number == k) refl
        where
          by_test : (b : Bool) → number == k ≡ b → cond b 1 0 + count_of k (map.entries tree.paths) ≡ count_of k (map.entries tree.paths)
          by_test true same = absurd (other (sym (eqb_same number k same)))
          by_test false differs = omega arith

      few_more : HasFewPaths files more
      few_more = record { few = λ tag k way. by_number tag (number_of tag == number) refl k way }
        where
          by_number : (tag : Tag) (b : Bool) → number_of tag == number ≡ b → (k : Kind) → IsReached files tag k → paths_to more (number_of tag) ≤ most_paths (files tag)
          by_number tag true same k way =
              let tags : tag ≡ one.tag = one_number files are.good way.0 reached.0 tag one.tag k of way.1 reached.1 (eqb_same (number_of tag) number same) in
              subst (λ (t : Tag). paths_to more (number_of t) ≤ most_paths (files t)) (sym tags) (omega (arith, one_more, less, links_of))
          by_number tag false differs k way =
              let was = hides.few.few tag k way in
              let same = others_same (number_of tag) (eqb_other (number_of tag) number differs) in
              omega (arith, was, same)

      pub hidden_more : IsHiding files nodes below (count + 1) more
      hidden_more = record { missing = hides.missing; is = tree_more; few = few_more }

    -- what a tree has under the number of a node is that node: a path leads there
    pub reached_node : (count : ℕ) (tree : Fileset) → IsHiding files nodes below count tree → (node : Node) → map.get tree.nodes (number_of one.tag) ≡ Some node → (of : Kind) × IsReached files one.tag of
    reached_node count tree hides node there =
        let named = hides.is.named (number_of one.tag) node there in
        let way = named.3 in
        let same : named.0 ≡ one.tag = one_tag named.0 one.tag (led_seq files are.good way.0 named.0 named.1 way.1) (are.good.seq one.tag file_of.0 file_of.1) (sym named.2) in
        (named.1, (way.0, way.1 ∙ ap (λ (t : Tag). Some (t, named.1)) same))

    -- without a node no path leads there
    pub no_node_hides : (count : ℕ) (tree : Fileset) → IsHiding files nodes below count tree → map.get tree.nodes (number_of one.tag) ≡ None → Hides files nodes below one tree tree count
    no_node_hides count tree hides none = record {
      is = hides;
      has = λ of reached. none_is_some (node_for nodes one.tag of) (sym none ∙ hides.is.held one.tag of reached);
      kept = λ other among' has. has;
    }

    -- paths are added up to a number of them, and other numbers have as many as before
    pub record IsHidingOn (old new : Fileset) (next index : ℕ) : Type 0 where
      pub is : IsHiding files nodes below next new
      pub at : paths_to new (number_of one.tag) ≡ index
      pub others : (k : ℕ) → k ≢ number_of one.tag → paths_to new k ≡ paths_to old k

    pub hiding_first : (count : ℕ) (tree : Fileset) → IsHiding files nodes below count tree → IsHidingOn tree tree count (paths_to tree (number_of one.tag))
    hiding_first count tree hides = record { is = hides; at = refl; others = λ k other. refl }

    pub hiding_more : (of : Kind) → IsReached files one.tag of → (old new : Fileset) (next index : ℕ) → IsHidingOn old new next index → index < one.links → next < 2 ^ 64
        → IsHidingOn old (with_node (hidden_below below next) (number_of one.tag) one.node new) (next + 1) (index + 1)
    hiding_more of reached old new next index on within low =
        let less : paths_to new (number_of one.tag) < one.links = omega (arith, on.at, within) in
        record {
          is = hidden_more next new on.is low of reached less;
          at = one_more next new on.is low of reached less ∙ ap (λ n. n + 1) on.at;
          others = λ k other. others_same next new on.is low of reached less k other ∙ on.others k other;
        }

    pub hiding_done : (of : Kind) → IsReached files one.tag of → (old new : Fileset) (next index : ℕ) → IsHidingOn old new next index → one.links ≤ index → Hides files nodes below one old new next
    hiding_done of reached old new next index on full = record {
      is = on.is;
      has = λ k way. all;
      kept = λ other among' has k way. by_number other among' (number_of other.tag == number_of one.tag) refl k way (has k way);
    }
      where
        all : paths_to new (number_of one.tag) ≡ one.links
        all = let few = on.is.few.few one.tag of reached in omega (arith, few, links_of, on.at, full)

        by_number : (other : TaggedNode) → Contains nodes other → (b : Bool) → number_of other.tag == number_of one.tag ≡ b → (k : Kind) → IsReached files other.tag k
            → paths_to old (number_of other.tag) ≡ other.links → paths_to new (number_of other.tag) ≡ other.links
        by_number other among' true same k way had =
            let tags : other.tag ≡ one.tag = one_number files are.good way.0 reached.0 other.tag one.tag k of way.1 reached.1 (eqb_same (number_of other.tag) (number_of one.tag) same) in
            let itself' : other ≡ one = some_inj (sym (are.has.once other among') ∙ ap (node_in nodes) tags ∙ are.has.once one among) in
            subst (λ (n : TaggedNode). paths_to new (number_of n.tag) ≡ n.links) (sym itself') all
        by_number other among' false differs k way had =
            on.others (number_of other.tag) (eqb_other (number_of other.tag) (number_of one.tag) differs) ∙ had

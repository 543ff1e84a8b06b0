-- What a write lays on the pages of a node, one page after another.
use Rattle.std.proofs.Common.{◌≡◌, ◌∙◌, ◌+◌, ◌-◌, ◌*◌, ◌/◌, ◌<◌, ◌≤◌, ℕ, zero, suc, Bool, cond, Contains, List, [], ◌∷◌, ◌++◌, Option, None, Some, drop, length, map, max, take, unwrap_or, refl, sym, ap, subst, arith}
use Rattle.std.specs.Cmp.{nat_cmp_total}
use Rattle.std.specs.FinMap as maps
use Rattle.std.specs.FinMap.{get, insert}
use Rattle.std.specs.List.{range_with_len}
use Rattle.std.specs.Option.{option_map_or}
use Rattle.std.specs.Ordering.{nat_cmp}
use Rattle.std.proofs.lemmas.Bool.{ne_eqb}
use Rattle.std.proofs.lemmas.List.FromFn.{get_or-range_with_len, length-range_with_len, map-range_with_len_more}
use Rattle.domain_memory.specs.domain_base.Page.{overwritten, zero_bytes}
use Rattle.domain_memory.specs.fileset_model.Apply.{flagged_node, truncated_node, written_node}
use Rattle.domain_memory.specs.fileset_files.declared.attributes.Attributes.{Attributes}
use Rattle.domain_memory.specs.fileset_model.Pages.{Pages, page_after, pages_of, with_pages}
use Rattle.domain_memory.specs.fileset_model.declared.node.Node.{Node}
use Rattle.domain_memory.specs.fileset_model.declared.node.Node.TheVariants.{Directory, File}
use Rattle.domain_memory.proofs.OfFilesetValues.MapLemmas.{get-insert_other}
use Rattle.set_standing.specs.Commands.{page_at, with_each, zeros_behind}
use Rattle.set_standing.specs.Nodes.{cut_to, with_page, with_size}
use Rattle.set_standing.proofs.Truncated.{cleared_last, cleared_none}
use Rattle.file_changes.specs.Reading.{IsDescribed, pages_in}
use Rattle.file_changes.specs.Writing.{cleared_behind, with_written}

each_more : (es : List (ℕ × List ℕ)) (e : ℕ × List ℕ) (node : Node) → with_each (es ++ e ∷ []) node ≡ with_page e.0 e.1 (with_each es node)
each_more [] e node = refl
each_more (x ∷ es) e node = each_more es e (with_page x.0 x.1 node)

page_other : (page q : ℕ) (bytes : List ℕ) (node : Node) → page < q → get (pages_in (with_page page bytes node)) q ≡ get (pages_in node) q
page_other page q bytes (File uid gid size logged pages) below = get-insert_other nat_cmp_total maps.nat_cmp-IsAntisymmetric pages page bytes q (λ same. omega (arith, below, same))
page_other page q bytes (Directory uid gid) below = refl

pub each_other : (f : ℕ → List ℕ) (first n q : ℕ) → first + n ≤ q → (node : Node) → get (pages_in (with_each (map (λ p. (p, f p)) (range_with_len first n)) node)) q ≡ get (pages_in node) q
each_other f first zero q far node = refl
each_other f first (suc n) q far node =
    each_other f (first + 1) n q (omega (arith, far)) (with_page first (f first) node) ∙ page_other first q (f first) node (omega (arith, far))

-- what a write makes of a page hangs on that page alone
after_as : (one other : Pages) (offset : ℕ) (bytes : List ℕ) (q : ℕ) → get one q ≡ get other q → page_after one offset bytes q ≡ page_after other offset bytes q
after_as one other offset bytes q same =
    ap (λ (o : Option (List ℕ)). overwritten (unwrap_or o (zero_bytes 8192)) (offset - q * 8192) (take (8192 - (offset - q * 8192)) (drop (q * 8192 - offset) bytes))) same

-- no page yet
pub written_none : (first offset : ℕ) (bytes : List ℕ) (node : Node) → with_written (range_with_len first 0) offset bytes node ≡ node
written_none first offset bytes node = refl

-- and one more
pub written_more : (first n q offset : ℕ) (bytes : List ℕ) (node : Node) → first + n ≡ q
    → with_page q (page_after (pages_in (with_written (range_with_len first n) offset bytes node)) offset bytes q) (with_written (range_with_len first n) offset bytes node)
    ≡ with_written (range_with_len first (n + 1)) offset bytes node
written_more first n q offset bytes node next =
    let f : ℕ → List ℕ = page_after (pages_in node) offset bytes in
    let so_far = with_written (range_with_len first n) offset bytes node in
    ap (λ (b : List ℕ). with_page q b so_far) (after_as (pages_in so_far) (pages_in node) offset bytes q (each_other f first n q (omega (arith, next)) node))
    ∙ sym (each_more (map (λ p. (p, f p)) (range_with_len first n)) (q, f q) node)
    ∙ ap (λ es. with_each es node) (sym (map-range_with_len_more (λ p. (p, f p)) first n q next))

-- ---- all of them, and a size

each_file : (uid gid size : ℕ) (logged : Bool) (es : List (ℕ × List ℕ)) (pages : Pages) → with_each es (File uid gid size logged pages) ≡ File uid gid size logged (with_pages es pages)
each_file uid gid size logged [] pages = refl
each_file uid gid size logged (e ∷ es) pages = each_file uid gid size logged es (insert pages e.0 e.1)

each_directory : (uid gid : ℕ) (es : List (ℕ × List ℕ)) → with_each es (Directory uid gid) ≡ Directory uid gid
each_directory uid gid [] = refl
each_directory uid gid (e ∷ es) = each_directory uid gid es

pub written_end : (offset : ℕ) (bytes : List ℕ) (node : Node) (what : Attributes) → IsDescribed what (with_written (pages_of offset (length bytes)) offset bytes node)
    → with_size (max what.size (offset + length bytes)) what.is_logged (with_written (pages_of offset (length bytes)) offset bytes node) ≡ written_node offset bytes node
written_end offset bytes (File uid gid size logged pages) what is =
    let es = map (λ q. (q, page_after pages offset bytes q)) (pages_of offset (length bytes)) in
    let said = subst (IsDescribed what) (each_file uid gid size logged es pages) is in
    ap (with_size (max what.size (offset + length bytes)) what.is_logged) (each_file uid gid size logged es pages)
    ∙ (λ i. File uid gid (max (said.3 i) (offset + length bytes)) (said.4 i) (with_pages es pages))
written_end offset bytes (Directory uid gid) what is =
    ap (with_size (max what.size (offset + length bytes)) what.is_logged) (each_directory uid gid (map (λ q. (q, page_after (pages_in (Directory uid gid)) offset bytes q)) (pages_of offset (length bytes))))

-- ---- a file that is truncated, and one with another flag

pub cleared_end : (size : ℕ) (node : Node) → cleared_behind size (cut_to size node) ≡ truncated_node size node
cleared_end size (File uid gid old logged pages) = by_page (page_at (cut_to size (File uid gid old logged pages)) (size / 8192)) refl
  where
    by_page : (o : Option (List ℕ)) → page_at (cut_to size (File uid gid old logged pages)) (size / 8192) ≡ o → cleared_behind size (cut_to size (File uid gid old logged pages)) ≡ truncated_node size (File uid gid old logged pages)
    by_page None none =
        ap (λ (o : Option (List ℕ)). option_map_or (λ bytes. with_page (size / 8192) (zeros_behind size (size / 8192) bytes) (cut_to size (File uid gid old logged pages))) o (cut_to size (File uid gid old logged pages))) none
        ∙ sym (cleared_none uid gid size old logged pages none)
    by_page (Some page) there =
        ap (λ (o : Option (List ℕ)). option_map_or (λ bytes. with_page (size / 8192) (zeros_behind size (size / 8192) bytes) (cut_to size (File uid gid old logged pages))) o (cut_to size (File uid gid old logged pages))) there
        ∙ sym (cleared_last uid gid size old logged pages page there)
cleared_end size (Directory uid gid) =
    ap (λ (o : Option (List ℕ)). option_map_or (λ bytes. with_page (size / 8192) (zeros_behind size (size / 8192) bytes) (Directory uid gid)) o (Directory uid gid)) (maps.get-empty nat_cmp (size / 8192))

pub flagged_end : (flag : Bool) (node : Node) (what : Attributes) → IsDescribed what node → with_size what.size flag node ≡ flagged_node flag node
flagged_end flag (File uid gid size logged pages) what is = λ i. File uid gid (is.3 i) flag pages
flagged_end flag (Directory uid gid) what is = refl

-- ---- the pages that bytes lie in

in_range : (a n q : ℕ) → a ≤ q → q < a + n → Contains (range_with_len a n) q
in_range a n q low high = (
  q - a,
  subst (λ l. q - a < l) (sym (length-range_with_len a n)) (omega (arith, low, high)),
  get_or-range_with_len a n (q - a) q (omega (arith, low, high)) ∙ omega (arith, low),
)

of_range : (a n q : ℕ) → Contains (range_with_len a n) q → (a ≤ q) × (q < a + n)
of_range a n q has =
    let few : has.0 < n = subst (λ l. has.0 < l) (length-range_with_len a n) has.1 in
    let is : a + has.0 ≡ q = sym (get_or-range_with_len a n has.0 q few) ∙ has.2 in
    (omega (arith, is), omega (arith, is, few))

pub pages_are : (offset len : ℕ) → 1 ≤ len → pages_of offset len ≡ range_with_len (offset / 8192) ((offset + len - 1) / 8192 + 1 - offset / 8192)
pages_are offset len some = ap (λ b. cond b [] (range_with_len (offset / 8192) (suc ((offset + len - 1) / 8192) - offset / 8192))) (ne_eqb len 0 (λ e. omega (arith, some, e)))
    ∙ ap (λ n. range_with_len (offset / 8192) (n - offset / 8192)) (next ((offset + len - 1) / 8192))
  where
    next : (n : ℕ) → suc n ≡ n + 1
    next n = omega arith

pub pages_none : (offset len q : ℕ) → len ≡ 0 → Contains (pages_of offset len) q → ⊥
pages_none offset len q none has = no_page (subst (λ n. Contains (pages_of offset n) q) none has)
  where
    no_page : Contains (pages_of offset 0) q → ⊥
    no_page is = omega (arith, is.1)

pub pages_have : (offset len q : ℕ) → 1 ≤ len → offset / 8192 ≤ q → q < (offset + len - 1) / 8192 + 1 → Contains (pages_of offset len) q
pages_have offset len q some low high = subst (λ qs. Contains qs q) (sym (pages_are offset len some)) (in_range (offset / 8192) ((offset + len - 1) / 8192 + 1 - offset / 8192) q low (omega (arith, low, high)))

pub pages_within : (offset len q : ℕ) → 1 ≤ len → Contains (pages_of offset len) q → (offset / 8192 ≤ q) × (q < (offset + len - 1) / 8192 + 1)
pages_within offset len q some has =
    let at = of_range (offset / 8192) ((offset + len - 1) / 8192 + 1 - offset / 8192) q (subst (λ qs. Contains qs q) (pages_are offset len some) has) in
    (at.0, omega (arith, at.0, at.1))

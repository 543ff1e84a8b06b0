-- A file that a command writes.
use Rattle.std.proofs.Common.{◌≡◌, ◌∙◌, ℕ, ◌+◌, Bool, true, false, cond, max, List, [], ◌∷◌, length, map, Option, Some, nat_eq, ◌||◌, refl, sym, ap, subst, ⊎_elim}
use Rattle.std.proofs.lemmas.Bool.{cases_eq, eq-eqb, ne_eqb}
use Rattle.std.specs.Cmp.{nat_cmp_total}
use Rattle.std.specs.FinMap.{get, insert, nat_cmp-IsAntisymmetric}
use Rattle.std.specs.List.{list_any}
use Rattle.standing_laws.specs.fileset_files.declared.attributes.Attributes.{Attributes}
use Rattle.standing_laws.specs.fileset_model.Apply.{written_node}
use Rattle.standing_laws.specs.fileset_model.Pages.{Pages, page_after, pages_of, with_pages}
use Rattle.standing_laws.specs.fileset_model.declared.node.Node.TheVariants.{File}
use Rattle.standing_laws.proofs.OfFilesetValues.MapLemmas.{get-insert_same, get-insert_other}
use Rattle.standing_laws.specs.domain_layout.Filled.{Contents, IsFilled}
use Rattle.standing_laws.specs.domain_layout.Seen.{SeenFile}
use Rattle.set_standing.specs.Commands.{WritesFile, with_each}
use Rattle.set_standing.specs.Nodes.{with_size}

-- ---- pages that are put in one after the other

each_put : (uid gid size : ℕ) (logged : Bool) (es : List (ℕ × List ℕ)) (pages : Pages) → with_each es (File uid gid size logged pages) ≡ File uid gid size logged (with_pages es pages)
each_put uid gid size logged [] pages = refl
each_put uid gid size logged (e ∷ es) pages = each_put uid gid size logged es (insert pages e.0 e.1)

pub put_in : (uid gid size : ℕ) (logged : Bool) (pages : Pages) (offset : ℕ) (bytes : List ℕ) → written_node offset bytes (File uid gid size logged pages) ≡
    with_size (max size (offset + length bytes)) logged (with_each (map (λ q. (q, page_after pages offset bytes q)) (pages_of offset (length bytes))) (File uid gid size logged pages))
put_in uid gid size logged pages offset bytes =
    ap (with_size (max size (offset + length bytes)) logged)
    (sym (each_put uid gid size logged (map (λ q. (q, page_after pages offset bytes q)) (pages_of offset (length bytes))) pages))

-- ---- the page at each number then

module _ (page : ℕ → List ℕ) (q : ℕ) where
  got_by : (is_in : Bool) (found : Option (List ℕ)) → Option (List ℕ)
  got_by is_in found = cond is_in (Some (page q)) found

  get-put : (qs : List ℕ) (pages : Pages) → get (with_pages (map (λ p. (p, page p)) qs) pages) q ≡ cond (list_any (λ p. nat_eq p q) qs) (Some (page q)) (get pages q)
  get-put [] pages = refl
  get-put (p ∷ qs) pages = get-put qs (insert pages p (page p)) ∙ ⊎_elim
      (λ same. here (list_any (λ x. nat_eq x q) qs) same ∙ (λ i. cond (sym (eq-eqb p q same) i || list_any (λ x. nat_eq x q) qs) (Some (page q)) (get pages q)))
      (λ other.
      (λ i. cond (list_any (λ x. nat_eq x q) qs) (Some (page q)) (get-insert_other nat_cmp_total nat_cmp-IsAntisymmetric pages p (page p) q (λ e. other (sym e)) i))
      ∙ (λ i. cond (sym (ne_eqb p q other) i || list_any (λ x. nat_eq x q) qs) (Some (page q)) (get pages q)))
      (cases_eq p q)
    where
      here : (b : Bool) → p ≡ q → cond b (Some (page q)) (get (insert pages p (page p)) q) ≡ Some (page q)
      here true same = refl
      here false same = subst (λ x. get (insert pages p (page p)) x ≡ Some (page x)) same (get-insert_same nat_cmp_total nat_cmp-IsAntisymmetric pages p (page p))

pub written_is : (contents now : Contents) (seen after : SeenFile) (uid gid size : ℕ) (logged : Bool) (pages : Pages) (offset : ℕ) (bytes : List ℕ) →
    WritesFile pages offset bytes contents now seen after → IsFilled contents seen (File uid gid size logged pages) →
    IsFilled now after (written_node offset bytes (File uid gid size logged pages))
written_is contents now seen after uid gid size logged pages offset bytes writes was = (
  ap (λ (a : Attributes). a.kind) writes.is ∙ was.0,
  ap (λ (a : Attributes). a.uid) writes.is ∙ was.1,
  ap (λ (a : Attributes). a.gid) writes.is ∙ was.2,
  ap (λ (a : Attributes). a.size) writes.is ∙ ap (λ n. max n (offset + length bytes)) was.3,
  ap (λ (a : Attributes). a.is_logged) writes.is ∙ was.4,
  (λ q. get-put (page_after pages offset bytes) q (pages_of offset (length bytes)) pages
      ∙ ap (cond (list_any (λ p. nat_eq p q) (pages_of offset (length bytes))) (Some (page_after pages offset bytes q))) (was.5 q) ∙ sym (writes.each q)),
)

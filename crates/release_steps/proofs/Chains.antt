-- A chain of quota cells in which one cell is another, and others come after it.
use Rattle.std.proofs.Common.{◌≡◌, ◌∙◌, true, List, [], ◌∷◌, ◌++◌, Option, Some, None, refl, sym, ap, subst}
use Rattle.std.specs.List.{AllByRecursion}
use Rattle.release_list.specs.domain_base.declared.place.CellAt.{CellAt}
use Rattle.release_list.specs.page_store.Pages.{Pages}
use Rattle.release_list.specs.metadata_cells.declared.head.CellHead.{CellHead}
use Rattle.release_list.specs.metadata_cells.declared.head.CellKind.{CellKind}
use Rattle.release_list.specs.metadata_cells.Cell.{Cell}
use Rattle.release_list.specs.metadata_cells.Chain.{AreDistinct, Follow, PlacedCell, StandsAt, may_follow}
use Rattle.release_list.proofs.OfMetadataCells.Unique.{one_stands}
use Rattle.release_list.specs.file_release.Steps.{AllStand}
use Rattle.release_list.specs.Standing.{IsQuotaCell, IsQuotas}
use Rattle.release_steps.specs.QuotaChain.{IsQuotaChain}

-- what follows, with another tail
follow_tail : (old new : Pages) (front xs ys : List PlacedCell) → AllStand new front → ((h : CellHead) → Follow old h xs → Follow new h ys) → (h : CellHead) → Follow old h (front ++ xs) → Follow new h (front ++ ys)
follow_tail old new [] xs ys stand tail h follow = tail h follow
follow_tail old new (f ∷ front) xs ys stand tail h follow = (follow.0, follow.1, stand.0, follow_tail old new front xs ys stand.1 tail f.cell.head follow.3)

module _ (old new : Pages) (start : CellAt) (c now : PlacedCell) (rest tail : List PlacedCell) (same : now.at ≡ c.at) (kind : now.cell.head.kind ≡ c.cell.head.kind)
    (stands : StandsAt new now.at now.cell) (follow : Follow new now.cell.head tail) where
  from_there : (h : CellHead) → Follow old h (c ∷ rest) → Follow new h (now ∷ tail)
  from_there h is = (is.0 ∙ ap Some (sym same), subst (λ (k : CellKind). may_follow h.kind k ≡ true) (sym kind) is.1, stands, follow)

  pub quotas_after : (front : List PlacedCell) → IsQuotas old start (front ++ c ∷ rest) → AllStand new front → AreDistinct (front ++ now ∷ tail)
      → AllByRecursion (λ (q : PlacedCell). IsQuotaCell q.cell) (front ++ now ∷ tail) → IsQuotas new start (front ++ now ∷ tail)
  quotas_after [] is stand distinct cells = (same ∙ is.0, record { links = record { stands = stands; follow = follow; distinct = distinct }; cells = cells })
  quotas_after (f ∷ front) is stand distinct cells = (
    is.0,
    record {
      links = record {
        stands = stand.0;
        follow = follow_tail old new front (c ∷ rest) (now ∷ tail) stand.1 from_there f.cell.head is.1.links.follow;
        distinct = distinct;
      };
      cells = cells;
    },
  )

-- what follows the cell in the middle
pub follow_back : (pages : Pages) (start : CellAt) (front : List PlacedCell) (c : PlacedCell) (rest : List PlacedCell) → IsQuotas pages start (front ++ c ∷ rest) → Follow pages c.cell.head rest
follow_back pages start [] c rest is = is.1.links.follow
follow_back pages start (f ∷ front) c rest is = from_head front f.cell.head is.1.links.follow
  where
    from_head : (front : List PlacedCell) (h : CellHead) → Follow pages h (front ++ c ∷ rest) → Follow pages c.cell.head rest
    from_head [] h follow = follow.3
    from_head (x ∷ front) h follow = from_head front x.cell.head follow.3

pub all_quotas : (pages : Pages) (start : CellAt) (chain : List PlacedCell) → IsQuotas pages start chain → AllByRecursion (λ (q : PlacedCell). IsQuotaCell q.cell) chain
all_quotas pages start [] is = tt
all_quotas pages start (first ∷ rest) is = is.1.cells

pub quotas_stand : (pages : Pages) (start : CellAt) (chain : List PlacedCell) → IsQuotas pages start chain → AllStand pages chain
quotas_stand pages start [] is = tt
quotas_stand pages start (first ∷ rest) is = (is.1.links.stands, all_follow first.cell.head rest is.1.links.follow)
  where
    all_follow : (h : CellHead) (cs : List PlacedCell) → Follow pages h cs → AllStand pages cs
    all_follow h [] follow = tt
    all_follow h (c ∷ cs) follow = (follow.2, all_follow c.cell.head cs follow.3)

-- ---- one chain begins at a cell

same_more : (pages : Pages) (x y : PlacedCell) (a b : List PlacedCell) → x.at ≡ y.at → StandsAt pages x.at x.cell → StandsAt pages y.at y.cell → (x.cell ≡ y.cell → a ≡ b) → x ∷ a ≡ y ∷ b
same_more pages x y a b place here there rest =
    let cell : x.cell ≡ y.cell = one_stands pages y.at x.cell y.cell (subst (λ (p : CellAt). StandsAt pages p x.cell) place here) there in
    let same : x ≡ y = ap (λ (p : CellAt). record { at = p; cell = x.cell }) place ∙ ap (λ (c : Cell). record { at = y.at; cell = c }) cell in
    ap (λ (c : PlacedCell). c ∷ a) same ∙ ap (λ (cs : List PlacedCell). y ∷ cs) (rest cell)

one_follow : (pages : Pages) (h : CellHead) (a b : List PlacedCell) → Follow pages h a → Follow pages h b → a ≡ b
one_follow pages h [] [] follow other = refl
one_follow pages h [] (y ∷ b) follow other = let e : None ≡ Some y.at = sym follow ∙ other.0 in absurd (cc)
one_follow pages h (x ∷ a) [] follow other = let e : None ≡ Some x.at = sym other ∙ follow.0 in absurd (cc)
one_follow pages h (x ∷ a) (y ∷ b) follow other =
    let e : Some x.at ≡ Some y.at = sym follow.0 ∙ other.0 in
    let place : x.at ≡ y.at = cc in
    same_more pages x y a b place follow.2 other.2 (λ same. one_follow pages x.cell.head a b follow.3 (subst (λ (c : Cell). Follow pages c.head b) (sym same) other.3))

pub one_quotas : (pages : Pages) (start : CellAt) (a b : List PlacedCell) → IsQuotas pages start a → IsQuotas pages start b → a ≡ b
one_quotas pages start [] b is other = absurd is
one_quotas pages start (x ∷ a) [] is other = absurd other
one_quotas pages start (x ∷ a) (y ∷ b) is other =
    same_more pages x y a b (is.0 ∙ sym other.0) is.1.links.stands other.1.links.stands
    (λ same. one_follow pages x.cell.head a b is.1.links.follow (subst (λ (c : Cell). Follow pages c.head b) (sym same) other.1.links.follow))

pub one_quota_chain : (pages : Pages) (first : Option CellAt) (a b : List PlacedCell) → IsQuotaChain pages first a → IsQuotaChain pages first b → a ≡ b
one_quota_chain pages None a b is other = is ∙ sym other
one_quota_chain pages (Some start) a b is other = one_quotas pages start a b is other

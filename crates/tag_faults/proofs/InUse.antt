-- Cells in use that are named, by what was read of them.
use Rattle.std.proofs.Common.{◌≡◌, ◌∙◌, ◌↔◌, inl, inr, ℕ, Bool, IsTrue, List, Option, Some, None, refl, sym, ap, subst}
use Rattle.std.specs.Option.{option_and_then}
use Rattle.cell_faults.specs.domain_base.declared.place.CellAt.{CellAt}
use Rattle.cell_faults.specs.domain_base.declared.place.Home.{Home}
use Rattle.cell_faults.specs.page_store.Pages.{Pages}
use Rattle.cell_faults.specs.cell_records.Fields.{number_at}
use Rattle.cell_faults.specs.metadata_cells.Cell.{IsFileset, kind_number}
use Rattle.cell_faults.specs.metadata_cells.CellPage.{cell_at, home_of}
use Rattle.cell_faults.specs.metadata_cells.declared.head.CellKind.TheVariants.{Quota}
use Rattle.cell_faults.specs.fileset_table.Table.{Table, entry_of}
use Rattle.cell_faults.specs.fileset_table.declared.slot.FilesetEntry.{FilesetEntry}
use Rattle.cell_faults.specs.fileset_table.declared.slot.SlotItem.{SlotItem}
use Rattle.cell_faults.specs.domain_layout.CellRules as rules
use Rattle.cell_faults.specs.domain_layout.CellRules.{IsLink, next_in}
use Rattle.cell_faults.specs.domain_layout.Reached.{Frame}
use Rattle.cell_faults.specs.domain_layout.TagRules.{HasWrongQuota, IsQuotaOf}
use Rattle.cell_faults.specs.cell_chains.Links.{HasLink}
use Rattle.cell_faults.specs.cell_chains.Members.{IsIn}
use Rattle.cell_faults.specs.cell_chains.declared.links.CellLink.{CellLink}
use Rattle.cell_faults.specs.cell_chains.declared.links.CellLinks.{CellLinks}
use Rattle.cell_faults.specs.cell_chains.declared.set.CellSet.{CellSet}
use Rattle.cell_faults.proofs.OfCellChains.Whole.{one_link}
use Rattle.cell_faults.specs.cell_chains.Heads.{IsLedTo}
use Rattle.cell_faults.specs.Links.{AreLinks}
use Rattle.cell_faults.proofs.Walks.{in_use, is_link, link_of}
use Rattle.tag_faults.specs.Quotas.{HasUnnamedQuota, IsQuotaAlone, IsQuotaNamed, own_quota}

some_same : {X : Type 0} (a b : X) → Some a ≡ Some b → a ≡ b
some_same a b e = cc

none_some : {X : Type 0} (x : X) → None ≡ Some x → ⊥
none_some x e = cc

-- an original or a clone that names a quota cell
entry_with : (item : SlotItem) (at : CellAt) → own_quota item ≡ Some at → (entry : FilesetEntry) × (entry_of item ≡ Some entry) × (entry.quota ≡ Some at)
entry_with item at named = by_entry (entry_of item) refl named
  where
    by_entry : (o : Option FilesetEntry) → entry_of item ≡ o → option_and_then (λ (entry : FilesetEntry). entry.quota) o ≡ Some at → (entry : FilesetEntry) × (entry_of item ≡ Some entry) × (entry.quota ≡ Some at)
    by_entry None is named = absurd (none_some at named)
    by_entry (Some entry) is named = (entry, is, named)

module _ (pages : Pages) (frame : Frame) (number : ℕ) (item : SlotItem) where
  named_own : (wrong : HasWrongQuota pages frame number item) → own_quota item ≡ Some wrong.at
  named_own wrong = ap (option_and_then (λ (entry : FilesetEntry). entry.quota)) wrong.is ∙ wrong.named

module _ (pages : Pages) (frame : Frame) (links : CellLinks) (are : AreLinks pages frame links) where
  -- ---- quota cells

  module _ (number : ℕ) (at : CellAt) where
    quota_link : (is : IsQuotaOf pages frame number at) → HasLink links at (record { kind = Quota; next = next_in is.bytes })
    quota_link is = (are at (record { kind = Quota; next = next_in is.bytes })).1 (record { place = is.place; bytes = is.bytes; there = is.there; kind = is.kind; next = refl })

    pub no_quota : ((link : CellLink) → ¬ HasLink links at link) → ¬ IsQuotaOf pages frame number at
    no_quota none is = none (record { kind = Quota; next = next_in is.bytes }) (quota_link is)

    pub other_kind : (link : CellLink) → HasLink links at link → ¬ link.kind ≡ Quota → ¬ IsQuotaOf pages frame number at
    other_kind link has other is =
        other (ap (λ (l : CellLink). l.kind) (one_link links at at link (record { kind = Quota; next = next_in is.bytes }) has (quota_link is)))

    pub quota_says : (link : CellLink) → HasLink links at link → link.kind ≡ Quota → (says : Bool)
        → ((bytes : List ℕ) → cell_at pages at ≡ Some bytes → IsTrue says ↔ IsFileset (number_at 1 14 bytes) (Some number)) → IsTrue says ↔ IsQuotaOf pages frame number at
    quota_says link has kind says told =
        let there = is_link pages frame links are at link has in (
          λ yes. record { place = there.place; bytes = there.bytes; there = there.there; kind = there.kind ∙ ap kind_number kind; fileset = (told there.bytes there.there).0 yes },
          λ is. (told is.bytes is.there).1 is.fileset,
        )

  module _ (led : CellSet) (all_led : (onto : CellAt) → IsIn led onto ↔ IsLedTo links onto) where
    leads_to : (at : CellAt) → IsIn led at → (other : CellAt) × rules.LeadsTo pages frame other at
    leads_to at among = let (other, link, has, (kind, leads)) = (all_led at).0 among in (other, (link_in_rules link, is_link pages frame links are other link has, kind, leads))
      where
        link_in_rules : CellLink → rules.Link
        link_in_rules link = record { kind = link.kind; next = link.next }

    led_to : (at other : CellAt) → rules.LeadsTo pages frame other at → IsIn led at
    led_to at other (link, is, kind, leads) = (all_led at).1 (other, link_of link, in_use pages frame links are other link is, (kind, leads))

    -- ---- quota cells that slots name

    pub wrong_quota : (number : ℕ) (item : SlotItem) (at : CellAt) → own_quota item ≡ Some at → IsQuotaOf pages frame number at → (has : Bool) → IsTrue has ↔ IsIn led at
        → IsTrue has ↔ HasWrongQuota pages frame number item
    wrong_quota number item at named is has among = (
      λ yes. let (entry, there, says) = entry_with item at named in record { entry = entry; is = there; at = at; named = says; wrong = inr (leads_to at (among.0 yes)) },
      λ wrong. by_wrong wrong (some_same wrong.at at (sym (named_own pages frame number item wrong) ∙ named)),
    )
      where
        by_wrong : (wrong : HasWrongQuota pages frame number item) → wrong.at ≡ at → IsTrue has
        by_wrong wrong same = elim wrong.wrong [
          | inl none ↦ absurd (none (subst (IsQuotaOf pages frame number) (sym same) is))
          | inr (other, leads) ↦ among.1 (led_to at other (subst (rules.LeadsTo pages frame other) same leads))
        ]

    module _ (table : Table) (named : CellSet) (all_named : (at : CellAt) → IsIn named at ↔ IsQuotaNamed table at) where
      pub unnamed_all : (home : Home) → ((at : CellAt) × (link : CellLink) × HasLink links at link × ((home_of at ≡ home) × IsQuotaAlone led named at link)) ↔ HasUnnamedQuota pages frame table home
      unnamed_all home = (
        λ (at, link, has, (same, (kind, first, alone))). (
          at,
          same,
          record {
            link = record { kind = link.kind; next = link.next };
            is = is_link pages frame links are at link has;
            kind = kind;
            first = λ other leads. first (led_to at other leads);
            unnamed = λ number item there names. alone ((all_named at).1 (number, (item, there, names)));
          },
        ),
        λ (at, same, wrong). (
          at,
          link_of wrong.link,
          in_use pages frame links are at wrong.link wrong.is,
          (
            same,
            (
              wrong.kind,
              (λ among. let leads = leads_to at among in wrong.first leads.0 leads.1),
              (λ among. let (number, (item, there, names)) = (all_named at).0 among in wrong.unnamed number item there names),
            ),
          ),
        ),
      )

-- The fileset of a slot once an owner's limits are set in it.
use Rattle.std.proofs.Common.{◌≡◌, ◌∙◌, ℕ, Bool, true, false, cond, List, [], ◌∷◌, ◌++◌, Option, Some, None, unwrap_or, if◌then◌else◌, refl, sym, ap, subst}
use Rattle.std.proofs.lemmas.List.Elements.{filter_map-append}
use Rattle.std.specs.FinMap as map
use Rattle.std.specs.Option.{option_map_or}
use Rattle.domain_standing.specs.domain_base.declared.place.CellAt.{CellAt}
use Rattle.domain_standing.specs.cell_records.declared.record.Record.{Record}
use Rattle.domain_standing.specs.metadata_cells.Chain.{PlacedCell, records_of}
use Rattle.domain_standing.specs.page_store.Bitfiles.{Bitfiles}
use Rattle.domain_standing.specs.fileset_values.Orders.{Name, owner_cmp-total}
use Rattle.domain_standing.specs.fileset_model.Usage.{is_unlimited, limits_of, with_limits}
use Rattle.domain_standing.specs.fileset_values.declared.command.Owner.{Owner}
use Rattle.domain_standing.specs.fileset_values.declared.command.Owner.TheVariants as owner
use Rattle.domain_standing.specs.fileset_model.Fileset.{Fileset}
use Rattle.domain_standing.specs.fileset_model.declared.fileset.FilesetSlot.{FilesetSlot}
use Rattle.domain_standing.specs.fileset_model.declared.fileset.Limits.{Limits}
use Rattle.domain_standing.specs.fileset_model.declared.fileset.Role.{Role}
use Rattle.domain_standing.specs.fileset_model.declared.fileset.Role.TheVariants as role
use Rattle.domain_standing.specs.legal_histories.Valid.{IsValidAs, IsValidSlot}
use Rattle.domain_standing.proofs.OfLegalHistories.ValidTreeLemmas.{with_limits-valid}
use Rattle.domain_standing.specs.name_space.Names.{Names}
use Rattle.domain_standing.specs.quota_book.Owners.{same_owner}
use Rattle.domain_standing.specs.quota_book.QuotaCells.{Said, all_said, limits_at, limits_said, said_by, touched, with_quota}
use Rattle.domain_standing.proofs.OfQuotaBook.Cells.{no_limits, one_added, one_touched, unlimited_is}
use Rattle.domain_standing.specs.release_steps.QuotaChain.{IsQuotaChain, said_in, with_limits as with_said}
use Rattle.domain_standing.specs.release_list.Standing.{Files}
use Rattle.domain_standing.proofs.OfDomainLayout.OneShape.{links_same}
use Rattle.domain_standing.specs.domain_layout.Filled.{Fills, IsRole}
use Rattle.domain_standing.specs.domain_layout.Shape.{AreLimits, AreQuotas, FilesetShape, limits_in}
use Rattle.domain_standing.specs.domain_layout.Agreeing.{AgreeOnShape}
use Rattle.domain_standing.proofs.OfDomainLayout.FilledAlike.{fills}
use Rattle.domain_standing.specs.Chains.{IndexesAt}
use Rattle.domain_standing.specs.Domain.{DomainNow}
use Rattle.standing_laws.specs.Leads.{StandsBelow}
use Rattle.standing_laws.specs.SetsQuota.{SetsQuota, entry_limited, fileset_limited, shape_limited}
use Rattle.standing_laws.specs.Slots.{StandsSlot}
use Rattle.standing_laws.proofs.QuotaSets.{links_of, set_now, shape_now}

-- ---- what cells say

records_all : (chain : List PlacedCell) → said_by (records_of chain) ≡ all_said (said_in chain)
records_all [] = refl
records_all (c ∷ chain) =
    filter_map-append limits_said c.cell.records (records_of chain) ∙ ap (λ (s : Said). said_by c.cell.records ++ s) (records_all chain)

limits_with : (cells : List Said) (who other : Owner) (limits : Limits) → limits_at (all_said (with_said who limits cells)) other ≡ cond (same_owner other who) limits (limits_at (all_said cells) other)
limits_with cells who other limits = by_touched (touched cells who) refl
  where
    by_touched : (o : Option ℕ) → touched cells who ≡ o → limits_at (all_said (option_map_or (λ k. with_quota k who limits cells) o (cells ++ ((who, limits) ∷ []) ∷ []))) other ≡ cond (same_owner other who) limits (limits_at (all_said cells) other)
    by_touched None none = one_added cells who other limits none
    by_touched (Some k) some = one_touched cells who other limits k some

-- ---- the limits of a fileset

pub limits_then : (tree : Fileset) (who q : Owner) (limits : Limits) → limits_of (record tree { limits = with_limits tree.limits who limits }) q ≡ cond (same_owner q who) limits (limits_of tree q)
limits_then tree who q limits = by_test (is_unlimited limits) refl
  where
    after_removal : (b : Bool) → is_unlimited limits ≡ true → unwrap_or (cond b None (map.get tree.limits q)) no_limits ≡ cond b limits (limits_of tree q)
    after_removal true none = sym (unlimited_is limits none)
    after_removal false none = refl

    after_insert : (b : Bool) → unwrap_or (cond b (Some limits) (map.get tree.limits q)) no_limits ≡ cond b limits (limits_of tree q)
    after_insert true = refl
    after_insert false = refl

    by_test : (b : Bool) → is_unlimited limits ≡ b → unwrap_or (map.get (if b then map.remove tree.limits who else map.insert tree.limits who limits) q) no_limits ≡ cond (same_owner q who) limits (limits_of tree q)
    by_test true none = ap (λ o. unwrap_or o no_limits) (map.get-remove owner_cmp-total tree.limits who q) ∙ after_removal (same_owner q who) none
    by_test false some = ap (λ o. unwrap_or o no_limits) (map.get-insert owner_cmp-total tree.limits who limits q) ∙ after_insert (same_owner q who)

-- other limits leave the names
pub names_still : (shown : Bitfiles) (fileset : FilesetSlot) (who : Owner) (limits : Limits) → Names shown fileset → Names shown (fileset_limited who limits fileset)
names_still shown fileset who limits names = record {
  paths = names.paths;
  shown = λ path tag of shows led. let is = names.shown path tag of shows led in record { kind = is.kind; out = is.out; node = is.node };
  directories = names.directories;
  live = names.live;
  seq = names.seq;
}

pub valid_still : (fileset : FilesetSlot) (who : Owner) (limits : Limits) → fileset.role ≡ role.Original → IsValidSlot fileset → IsValidSlot (fileset_limited who limits fileset)
valid_still fileset who limits original valid =
    subst (λ (r : Role). IsValidAs r (fileset_limited who limits fileset)) (sym original)
    (with_limits-valid fileset.tree who limits (subst (λ (r : Role). IsValidAs r fileset) original valid))

pub is_original : (name : Option Name) (r : Role) → IsRole name r → name ≡ None → r ≡ role.Original
is_original None r is none = is
is_original (Some name) r is none = let e : Some name ≡ None = none in absurd (cc)

module _ (number : ℕ) (d now : DomainNow) (files files_now : Files) (indexes : IndexesAt) (below : StandsBelow d files indexes) (s : SetsQuota number d now files files_now) where
  abbrev start : CellAt
  start = s.sets.start

  abbrev after : List PlacedCell
  after = s.sets.sets.after

  -- the records that the shape was read from are those of the chain
  records_were : (records : List Record) → AreQuotas d.pages s.entry.quota records → records ≡ records_of s.sets.chain
  records_were records are = by_first s.entry.quota are s.sets.is
    where
      by_first : (o : Option CellAt) → AreQuotas d.pages o records → IsQuotaChain d.pages o s.sets.chain → records ≡ records_of s.sets.chain
      by_first None none chain = none ∙ ap records_of (sym chain)
      by_first (Some at) quotas chain = quotas.2 ∙ ap records_of (links_same d.pages at quotas.0 s.sets.chain quotas.1 (links_of d.pages at s.sets.chain chain))

  module _ (shape : FilesetShape) (fileset : FilesetSlot) (stood : StandsSlot d number s.entry shape fileset) where
    -- what a user or a group is said to have
    said_then : (other : Owner) → shape.limits other ≡ limits_at (said_by stood.is.limits.records) other
        → cond (same_owner other s.who) s.limits (shape.limits other) ≡ limits_at (said_by (records_of after)) other
    said_then other was =
        ap (cond (same_owner other s.who) s.limits)
        (was ∙ ap (λ (rs : List Record). limits_at (said_by rs) other) (records_were stood.is.limits.records stood.is.limits.quotas) ∙ ap (λ (x : Said). limits_at x other) (records_all s.sets.chain))
        ∙ sym (limits_with (said_in s.sets.chain) s.who other s.limits)
        ∙ ap (λ (cells : List Said). limits_at (all_said cells) other) (sym s.sets.sets.said)
        ∙ ap (λ (x : Said). limits_at x other) (sym (records_all after))

    each_now : (other : Owner) → cond (same_owner other s.who) s.limits (shape.limits other) ≡ limits_in (entry_limited start s.entry) (records_of after) other
    each_now (owner.User uid) = said_then (owner.User uid) (stood.is.limits.each (owner.User uid))
    each_now (owner.Group gid) = said_then (owner.Group gid) (stood.is.limits.each (owner.Group gid))
    each_now owner.Fileset = ap (λ (b : Bool). cond b s.limits (shape.limits owner.Fileset)) (apart s.who s.named) ∙ stood.is.limits.each owner.Fileset
      where
        apart : (who : Owner) → ¬ who ≡ owner.Fileset → same_owner owner.Fileset who ≡ false
        apart (owner.User uid) named = refl
        apart (owner.Group gid) named = refl
        apart owner.Fileset named = absurd (named refl)

    limits_now : AreLimits now.pages (entry_limited start s.entry) (shape_limited s.who s.limits shape).limits
    limits_now = record {
      records = records_of after;
      quotas = (after, links_of now.pages start after s.sets.sets.is, refl);
      each = each_now;
    }

    filled_now : Fills now.contents shape fileset → Fills now.contents (shape_limited s.who s.limits shape) (fileset_limited s.who s.limits fileset)
    filled_now f = record {
      role = f.role;
      valid = valid_still fileset s.who s.limits (is_original shape.original fileset.role f.role stood.is.none) f.valid;
      names = names_still shape.shown fileset s.who s.limits f.names;
      files = f.files;
      limits = λ q. limits_then fileset.tree s.who q s.limits ∙ ap (cond (same_owner q s.who) s.limits) (f.limits q);
    }

    pub slot_limited : AgreeOnShape d.contents now.contents shape → StandsSlot now number (entry_limited start s.entry) (shape_limited s.who s.limits shape) (fileset_limited s.who s.limits fileset)
    slot_limited agree = record {
      is = shape_now number d now files files_now indexes below s number s.entry shape fileset s.original stood (Some start) (shape_limited s.who s.limits shape).limits limits_now;
      filled = filled_now (fills d.contents now.contents shape fileset agree stood.filled);
      set = set_now number d now files files_now indexes below s number s.entry shape fileset s.original stood;
    }

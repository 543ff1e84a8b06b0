-- Where a write is given no page.
use Rattle.std.proofs.Common.{◌≡◌, ◌∙◌, ◌+◌, ◌-◌, ◌/◌, ℕ, false, List, Result, Ok, Err, IfErr, Contains, is_some, length, sym, ap, subst, arith}
use Rattle.std.specs.FinMap.{contains_key, empty}
use Rattle.std.specs.List.{range_with_len}
use Rattle.std.specs.Option.{option_map_or}
use Rattle.domain_memory.specs.domain_base.declared.place.Tag.{Tag}
use Rattle.domain_memory.specs.page_store.declared.fault.StoreFault.{StoreFault}
use Rattle.domain_memory.specs.page_store.declared.fault.StoreFault.TheVariants.{NoPage, OutOfMemory}
use Rattle.domain_memory.specs.fileset_model.Filesets.{FilesetMap}
use Rattle.domain_memory.specs.fileset_values.Orders.{Path}
use Rattle.domain_memory.specs.fileset_model.Pages.{page_after, pages_of}
use Rattle.domain_memory.specs.fileset_model.declared.fileset.FilesetSlot.{FilesetSlot}
use Rattle.domain_memory.specs.fileset_model.declared.node.Node.{Node}
use Rattle.domain_memory.specs.fileset_table.declared.slot.FilesetEntry.{FilesetEntry}
use Rattle.domain_memory.specs.declared.memory.DomainMemory.{DomainMemory}
use Rattle.file_changes.proofs.Changed.{around_file}
use Rattle.file_changes.proofs.Laid.{each_other}
use Rattle.file_changes.proofs.Paged.{page_lacking}
use Rattle.file_changes.proofs.Steps.{WritesSoFar}
use Rattle.file_changes.proofs.Twice.{has_between, has_node, node_between}
use Rattle.file_changes.specs.Reading.{pages_at, pages_in}
use Rattle.file_changes.specs.Stages.{GivesNone, HasFile, LacksPage}
use Rattle.file_changes.specs.Writing.{WantsAt, WantsPage, pages_before, with_written}

pub wants_at : {X : Type 0} (memory : DomainMemory) (number : ℕ) (tag : Tag) (page : ℕ) → LacksPage memory number tag page → (r : Result X StoreFault) → IfErr r (GivesNone memory number tag page) → IfErr r (λ fault. fault ≡ NoPage → WantsAt memory number tag page)
wants_at memory number tag page lacks (Ok x) none = tt
wants_at memory number tag page lacks (Err fault) none = λ is. record { lacks = lacks; none = subst (GivesNone memory number tag page) is none }

-- want of memory is none of a page
pub no_memory : {P : Type 0} (fault : StoreFault) → fault ≡ OutOfMemory → fault ≡ NoPage → P
no_memory fault short page = absurd (differ (sym short ∙ page))
  where
    differ : OutOfMemory ≡ NoPage → ⊥
    differ e = cc

-- the next page of a write is wanted
pub wants_page : (start : DomainMemory) (number : ℕ) (tag : Tag) (offset : ℕ) (bytes : List ℕ) (page : ℕ) → offset / 8192 + (page - offset / 8192) ≡ page → Contains (pages_of offset (length bytes)) page → (mid : DomainMemory)
    → WritesSoFar start number tag offset bytes (range_with_len (offset / 8192) (page - offset / 8192)) mid → WantsAt mid number tag page → WantsPage start number tag offset bytes
wants_page start number tag offset bytes page next within mid so_far wants = record {
  page = page;
  within = within;
  absent = absent;
  mid = mid;
  so_far = so_far.done;
  wants = wants;
}
  where
    absent : (path : Path) (all : FilesetMap) (entry : FilesetEntry) (fileset : FilesetSlot) → HasFile start number tag path all entry fileset → contains_key (pages_at fileset.tree path) page ≡ false
    absent path all entry fileset has =
        let n = has_node start number tag path all entry fileset has in
        let part : Node → Node = with_written (pages_before offset page) offset bytes in
        let stood = so_far.done path all entry fileset has in
        let between = has_between start mid number tag path all entry fileset has n.node n.there part stood so_far.rest.table in
        let around = around_file mid number tag path _ entry _ between in
        let lacking = page_lacking mid number tag path _ entry _ between so_far.file around.chains around.well.together.files page (wants.lacks around.chains around.well.together.files) in
        let now = node_between start mid number tag path all entry fileset has n.node n.there part stood so_far.rest.table in
        ap (λ o. contains_key (option_map_or pages_in o empty) page) n.there
        ∙ sym (ap is_some (each_other (page_after (pages_in n.node) offset bytes) (offset / 8192) (page - offset / 8192) page (omega (arith, next)) n.node))
        ∙ sym (ap (λ o. contains_key (option_map_or pages_in o empty) page) now)
        ∙ lacking

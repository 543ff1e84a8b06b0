use Rattle.std.proofs.Common.{◌≡◌, ℕ, ◌+◌, ◌<◌, ◌++◌, ◌∷◌, ◌∙◌, List, length, take, drop, set, sym, ap, arith}
use Rattle.std.proofs.lemmas.List.{take-append-drop, take-set, drop-set}
use Rattle.page_store.proofs.paged_file.put_entry.Goals as goal

-- a write of one page, as what stands before it, the page and what stands after it
written : (pages : List (List ℕ)) (at : ℕ) (page : List ℕ) → at < length pages → set pages at page ≡ take at pages ++ page ∷ drop (at + 1) pages
written pages at page within =
    sym (take-append-drop at (set pages at page)) ∙ ap (λ front. front ++ drop at (set pages at page)) (take-set pages at page) ∙ ap (λ back. take at pages ++ back) (drop-set pages at page within)

pub returns-then-at-len-clause-ok : goal.returns-then-at-len-clause-ok
returns-then-at-len-clause-ok c = written c.args.pages.now.items c.args.at c.args.page (omega arith)

use Rattle.std.proofs.Common.{◌≡◌, ◌∙◌, ℕ, List, Result, Ok, Err, IfOk, ap}
use Rattle.script_text.specs.fileset_values.declared.entry.Entry.{Entry}
use Rattle.script_text.specs.declared.script.ScriptFault.{ScriptFault}
use Rattle.script_text.specs.History.{line_of}
use Rattle.history_reading.specs.Entries.{IsEntry, unstamped}
use Rattle.history_reading.proofs.LineLemmas.{one_entry}
use Rattle.history_reading.proofs.reading_back.written_and_read.Goals as goal

same_entry : (entry : Entry) (line : List ℕ) → IsEntry entry → line ≡ line_of entry → (r : Result Entry ScriptFault)
    → IfOk r (λ back. IsEntry back × (back.stamp ≡ 0) × (line_of back ≡ line)) → IfOk r (λ back. back ≡ unstamped entry)
same_entry entry line is there (Ok back) read =
    let zero : back ≡ unstamped back = ap (λ n. record back { stamp = n }) read.1 in
    zero ∙ one_entry back entry read.0 is (read.2 ∙ there)
same_entry entry line is there (Err fault) read = tt

pub returns-in-Ok-clause-same : goal.returns-in-Ok-clause-same
returns-in-Ok-clause-same c =
    same_entry c.args.entry.now c.as_slice.result.now c.requires (c.as_slice.ensures.value ∙ c.in-Ok.ensures) c.read_line.result c.read_line.ensures.read

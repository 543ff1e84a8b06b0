use Rattle.file_release.proofs.Known.{file_of}
use Rattle.file_release.proofs.releasing.known_after.Goals as goal

pub returns-in-Some-reader : goal.returns-in-Some-reader
returns-in-Some-reader c = λ old new own known reads stays read.
    c.known_still.ensures old new own known (file_of old c.args.reader.now c.in-Some-reader.reader own c.in-Some-reader.is reads) (file_of new c.args.reader.now c.in-Some-reader.reader own c.in-Some-reader.is (stays c.in-None.is)) read

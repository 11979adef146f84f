use Rattle.std.proofs.Common.{◌≡◌, Ok, Err, ap, refl}
use Rattle.byte_ports.specs.declared.refusal.StoreRefusal.TheVariants as stores
use Rattle.respct.specs.Checks.{found_text}
use Rattle.respct.proofs.Steps.{cause_of}
use Rattle.respct.proofs.Checks.{text_is, loaded_decides, unloaded_decides, starved}
use Rattle.respct.proofs.checking.check.Goals as goal

pub returns-in-Err-clause-refused : goal.returns-in-Err-clause-refused
returns-in-Err-clause-refused g c = (c.in-Err.ensures.refused, refl)

pub returns-in-Err-clause-decided : goal.returns-in-Err-clause-decided
returns-in-Err-clause-decided g c = λ calm quiet named told. unloaded_decides _ c.in-Err.refusal (c.in-Err.ensures.decided calm named told)

pub returns-in-Ok-tell-clause-checked : goal.returns-in-Ok-tell-clause-checked
returns-in-Ok-tell-clause-checked g c = record {
  text = found_text c.in-Ok.loaded.found;
  is_text = text_is (g.G.Images.kept c.args.images.now) c.args.name.now c.in-Ok.loaded c.in-Ok.ensures.loaded;
  appended = c.in-Ok-tell.ensures.written;
}

pub returns-in-Ok-tell-clause-decided : goal.returns-in-Ok-tell-clause-decided
returns-in-Ok-tell-clause-decided g c = λ calm quiet named told. loaded_decides _ c.in-Ok.loaded (Ok tt) tt (c.in-Ok.ensures.decided calm named told)

pub returns-clause-refused : goal.returns-clause-refused
returns-clause-refused g c = (
  cause_of c.in-Err-tell.refusal (g.W.Sink.count c.args.sink.now) (g.W.Sink.count c.tell.new.sink) (λ e. c.in-Err-tell.ensures.failed (ap Err e)),
  record {
    text = found_text c.in-Ok.loaded.found;
    is_text = text_is (g.G.Images.kept c.args.images.now) c.args.name.now c.in-Ok.loaded c.in-Ok.ensures.loaded;
    some = c.in-Err-tell.ensures.refused;
  },
)

pub returns-clause-decided : goal.returns-clause-decided
returns-clause-decided g c = λ calm quiet named told.
    let want : c.in-Err-tell.refusal ≡ stores.OutOfMemory = starved c.in-Err-tell.refusal (g.W.Sink.count c.args.sink.now) (g.W.Sink.count c.tell.new.sink) (λ e. c.in-Err-tell.ensures.failed (ap Err e)) quiet in
    loaded_decides _ c.in-Ok.loaded _ want (c.in-Ok.ensures.decided calm named told)

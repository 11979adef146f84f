use Rattle.std.proofs.Common.{ℕ, List, Err, ap, sym, subst}
use Rattle.byte_ports.specs.Images.{HeldUnder}
use Rattle.respct.specs.Loads.{AreRefusedBy}
use Rattle.respct.proofs.Loads.{image_decides, fault_decides, found_decides}
use Rattle.respct.proofs.loading.load.Goals as goal

pub returns-in-Ok-clause-decided : goal.returns-in-Ok-clause-decided
returns-in-Ok-clause-decided g c = λ calm named told.
    let held : HeldUnder (g.G.Images.kept c.args.images.now) c.args.name.now c.as_slice.result.now =
    subst (λ (bytes : List ℕ). HeldUnder (g.G.Images.kept c.args.images.now) c.args.name.now bytes) (sym c.as_slice.ensures.value) (rw c.in-Ok-Some.field-0-is at c.in-Ok-Some.ensures.found) in
    found_decides (g.G.Images.kept c.args.images.now) named c.args.name.now c.as_slice.result.now _ held told (image_decides c.as_slice.result.now c.in-Ok.loaded c.in-Ok.ensures.image)

pub returns-in-Err-Fault-clause-refused : goal.returns-in-Err-Fault-clause-refused
returns-in-Err-Fault-clause-refused g c =
    let held : HeldUnder (g.G.Images.kept c.args.images.now) c.args.name.now c.as_slice.result.now =
    subst (λ (bytes : List ℕ). HeldUnder (g.G.Images.kept c.args.images.now) c.args.name.now bytes) (sym c.as_slice.ensures.value) (rw c.in-Ok-Some.field-0-is at c.in-Ok-Some.ensures.found) in
    record { bytes = c.as_slice.result.now; held = held; refused = c.in-Err-Fault.ensures.fault c.in-Err-Fault.fault (ap Err c.in-Err-Fault.field-0-is) }

pub returns-in-Err-Fault-clause-decided : goal.returns-in-Err-Fault-clause-decided
returns-in-Err-Fault-clause-decided g c = λ calm named told.
    let held : HeldUnder (g.G.Images.kept c.args.images.now) c.args.name.now c.as_slice.result.now =
    subst (λ (bytes : List ℕ). HeldUnder (g.G.Images.kept c.args.images.now) c.args.name.now bytes) (sym c.as_slice.ensures.value) (rw c.in-Ok-Some.field-0-is at c.in-Ok-Some.ensures.found) in
    let refused : AreRefusedBy c.as_slice.result.now c.in-Err-Fault.fault = c.in-Err-Fault.ensures.fault c.in-Err-Fault.fault (ap Err c.in-Err-Fault.field-0-is) in
    found_decides (g.G.Images.kept c.args.images.now) named c.args.name.now c.as_slice.result.now _ held told (fault_decides c.as_slice.result.now c.in-Err-Fault.fault refused)

use Rattle.std.proofs.Common.{◌≡◌, Err, inl, inr, ap}
use Rattle.power_cut.specs.declared.fault.ReadImageRefusal.TheVariants.{Fault}
use Rattle.power_cut.specs.Image.{sizes_in, rooms_in}
use Rattle.respct.proofs.Loads.{refused_by}
use Rattle.respct.proofs.loading.judge.Goals as goal

pub returns-in-Err-clause-fault : goal.returns-in-Err-clause-fault
returns-in-Err-clause-fault c = λ fault is.
    let same : c.in-Err.refusal ≡ Fault fault = cc is in
    refused_by c.args.bytes.now fault (inl ((c.in-Err.ensures.first fault).0 (ap Err same)))

pub returns-in-Err-check_image-clause-fault : goal.returns-in-Err-check_image-clause-fault
returns-in-Err-check_image-clause-fault c = λ fault is.
    let same : c.in-Err-check_image.refusal ≡ Fault fault = cc is in
    refused_by c.args.bytes.now fault (inr (record {
      sizes = sizes_in c.in-Ok.image;
      rooms = rooms_in c.in-Ok.image;
      spelling = record { whole = c.in-Ok.ensures.found; spelled = c.in-Ok.ensures.spelled };
      first = c.in-Err-check_image.ensures.first fault (ap Err same);
    }))

use Rattle.std.proofs.Common.{refl, ap, Err}
use Rattle.script_text.specs.Program.{program_of}
use Rattle.script_text.specs.ReportText.{report_of}
use Rattle.respct.specs.Steps.{ports}
use Rattle.respct.proofs.Openings.{led_by}
use Rattle.respct.proofs.Steps.{cause_of, rose_since, has_led, has_saved, others_since}
use Rattle.respct.proofs.leading.lead.Goals as goal

pub returns-in-Err-save-clause-refused : goal.returns-in-Err-save-clause-refused
returns-in-Err-save-clause-refused g c = (
  cause_of c.in-Err-save.refusal (g.G.Images.count c.args.images.now) (g.G.Images.count c.save.new.images)
      (λ e. rose_since (g.G.Images.count c.args.images.now) (g.G.Images.count c.open.new.images) (g.G.Images.count c.save.new.images) c.in-Ok-open.ensures.later (c.in-Err-save.ensures.failed (ap Err e))),
  record {
    led = led_by c.args.life c.args.name.now (program_of c.in-Ok.script) c.in-Ok-open.ensures.opened.image c.in-Ok-open.ensures.opened.opening (report_of c.in-Ok-live.report);
    has_led = has_led c.args.life c.args.name.now
        (ports (g.S.Source.left c.args.source.now) (g.S.Source.count c.args.source.now) (g.W.Sink.held c.args.sink.now) (g.W.Sink.count c.args.sink.now) (g.G.Images.kept c.args.images.now) (g.G.Images.count c.args.images.now))
        (ports (g.S.Source.left c.read.new.source) (g.S.Source.count c.read.new.source) (g.W.Sink.held c.args.sink.now) (g.W.Sink.count c.args.sink.now) (g.G.Images.kept c.save.new.images) (g.G.Images.count c.save.new.images))
        (program_of c.in-Ok.script) c.in-Ok-open.opened (report_of c.in-Ok-live.report) c.live.new.memory c.in-Ok.ensures.script c.in-Ok-open.ensures.opened c.in-Ok-live.ensures.told;
    others = others_since c.args.name.now (g.G.Images.kept c.args.images.now) (g.G.Images.kept c.open.new.images) (g.G.Images.kept c.save.new.images) c.in-Ok-open.ensures.same c.in-Err-save.ensures.refused;
    held_same = refl;
  },
)

pub returns-in-Ok-write-clause-reported : goal.returns-in-Ok-write-clause-reported
returns-in-Ok-write-clause-reported g c = record {
  led = led_by c.args.life c.args.name.now (program_of c.in-Ok.script) c.in-Ok-open.ensures.opened.image c.in-Ok-open.ensures.opened.opening (report_of c.in-Ok-live.report);
  has_led = has_led c.args.life c.args.name.now
      (ports (g.S.Source.left c.args.source.now) (g.S.Source.count c.args.source.now) (g.W.Sink.held c.args.sink.now) (g.W.Sink.count c.args.sink.now) (g.G.Images.kept c.args.images.now) (g.G.Images.count c.args.images.now))
      (ports (g.S.Source.left c.read.new.source) (g.S.Source.count c.read.new.source) (g.W.Sink.held c.write.new.sink) (g.W.Sink.count c.write.new.sink) (g.G.Images.kept c.save.new.images) (g.G.Images.count c.save.new.images))
      (program_of c.in-Ok.script) c.in-Ok-open.opened (report_of c.in-Ok-live.report) c.live.new.memory c.in-Ok.ensures.script c.in-Ok-open.ensures.opened c.in-Ok-live.ensures.told;
  saved = has_saved c.args.life c.args.name.now (g.G.Images.kept c.args.images.now) (g.G.Images.kept c.open.new.images) (g.G.Images.kept c.save.new.images) (g.S.Source.left c.args.source.now) (g.S.Source.left c.read.new.source) c.in-Ok.script c.in-Ok-open.ensures.opened.image c.in-Ok-open.ensures.opened.opening (report_of c.in-Ok-live.report) c.live.new.memory c.in-Ok-open.ensures.same
      (has_led c.args.life c.args.name.now
      (ports (g.S.Source.left c.args.source.now) (g.S.Source.count c.args.source.now) (g.W.Sink.held c.args.sink.now) (g.W.Sink.count c.args.sink.now) (g.G.Images.kept c.args.images.now) (g.G.Images.count c.args.images.now))
      (ports (g.S.Source.left c.read.new.source) (g.S.Source.count c.read.new.source) (g.W.Sink.held c.write.new.sink) (g.W.Sink.count c.write.new.sink) (g.G.Images.kept c.save.new.images) (g.G.Images.count c.save.new.images))
      (program_of c.in-Ok.script) c.in-Ok-open.opened (report_of c.in-Ok-live.report) c.live.new.memory c.in-Ok.ensures.script c.in-Ok-open.ensures.opened c.in-Ok-live.ensures.told).is_led
      c.in_default.ensures.whole c.in_default.ensures.saved;
  appended = c.in-Ok-write.ensures.written;
  ended = refl;
}

pub returns-clause-refused : goal.returns-clause-refused
returns-clause-refused g c = (
  cause_of c.in-Err-write.refusal (g.W.Sink.count c.args.sink.now) (g.W.Sink.count c.write.new.sink) (λ e. c.in-Err-write.ensures.failed (ap Err e)),
  record {
    led = led_by c.args.life c.args.name.now (program_of c.in-Ok.script) c.in-Ok-open.ensures.opened.image c.in-Ok-open.ensures.opened.opening (report_of c.in-Ok-live.report);
    has_led = has_led c.args.life c.args.name.now
        (ports (g.S.Source.left c.args.source.now) (g.S.Source.count c.args.source.now) (g.W.Sink.held c.args.sink.now) (g.W.Sink.count c.args.sink.now) (g.G.Images.kept c.args.images.now) (g.G.Images.count c.args.images.now))
        (ports (g.S.Source.left c.read.new.source) (g.S.Source.count c.read.new.source) (g.W.Sink.held c.write.new.sink) (g.W.Sink.count c.write.new.sink) (g.G.Images.kept c.save.new.images) (g.G.Images.count c.save.new.images))
        (program_of c.in-Ok.script) c.in-Ok-open.opened (report_of c.in-Ok-live.report) c.live.new.memory c.in-Ok.ensures.script c.in-Ok-open.ensures.opened c.in-Ok-live.ensures.told;
    saved = has_saved c.args.life c.args.name.now (g.G.Images.kept c.args.images.now) (g.G.Images.kept c.open.new.images) (g.G.Images.kept c.save.new.images) (g.S.Source.left c.args.source.now) (g.S.Source.left c.read.new.source) c.in-Ok.script c.in-Ok-open.ensures.opened.image c.in-Ok-open.ensures.opened.opening (report_of c.in-Ok-live.report) c.live.new.memory c.in-Ok-open.ensures.same
        (has_led c.args.life c.args.name.now
        (ports (g.S.Source.left c.args.source.now) (g.S.Source.count c.args.source.now) (g.W.Sink.held c.args.sink.now) (g.W.Sink.count c.args.sink.now) (g.G.Images.kept c.args.images.now) (g.G.Images.count c.args.images.now))
        (ports (g.S.Source.left c.read.new.source) (g.S.Source.count c.read.new.source) (g.W.Sink.held c.write.new.sink) (g.W.Sink.count c.write.new.sink) (g.G.Images.kept c.save.new.images) (g.G.Images.count c.save.new.images))
        (program_of c.in-Ok.script) c.in-Ok-open.opened (report_of c.in-Ok-live.report) c.live.new.memory c.in-Ok.ensures.script c.in-Ok-open.ensures.opened c.in-Ok-live.ensures.told).is_led
        c.in_default.ensures.whole c.in_default.ensures.saved;
    some = c.in-Err-write.ensures.refused;
  },
)

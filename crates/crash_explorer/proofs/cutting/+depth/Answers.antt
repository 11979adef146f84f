use Rattle.std.proofs.Common.{◌≡◌, ℕ, ◌+◌, ◌-◌, true, List, None, length, refl, ap, sym, ◌∙◌, subst, arith, replicate}
use Rattle.line_memory.specs.Line.{LineState}
use Rattle.crash_explorer.specs.declared.verdict.LeftVerdict.{LeftVerdict}
use Rattle.crash_explorer.specs.declared.verdict.LeftVerdict.TheVariants.{Clean as IsCleanOne, Wrong as IsWrongOne}
use Rattle.crash_explorer.specs.declared.verdict.CutVerdict.{CutVerdict}
use Rattle.crash_explorer.specs.declared.verdict.CutVerdict.TheVariants.{Clean as AreCleanAll}
use Rattle.crash_explorer.specs.Cut.{AreWithin, bare, pending_of, left_by, is_right}
use Rattle.crash_explorer.specs.Order.{ahead}
use Rattle.crash_explorer.specs.Better.{IsWeighed}
use Rattle.crash_explorer.specs.Sample.{AreKeptBy, sample}
use Rattle.crash_explorer.specs.Depth.{events_of, moment}
use Rattle.crash_explorer.specs.Verdicts.{IsVerdict, IsLeftVerdict, IsCutVerdict, IsWholeVerdict}
use Rattle.crash_explorer.proofs.Advancing.{within-length}
use Rattle.crash_explorer.proofs.Samples.{kept-within}
use Rattle.crash_explorer.proofs.Finding.{before, up_to}
use Rattle.crash_explorer.proofs.Cuts.{IsAt, IsMet, at-first, at-next, met-first, met-more, met-less, met-last, sampled-more, sampled-wrong}
use Rattle.crash_explorer.proofs.Inner.{left-right, inside-more, inside-last}
use Rattle.crash_explorer.proofs.cutting.+depth.Goals as goal

pub try_left-loop-i-preserved : goal.try_left-loop-i-preserved
try_left-loop-i-preserved g t c =
    let cut = g.S.Subject.cut c.args.subject.now in
    let plan = c.args.plan.now in
    let left = c.args.left.now in
    let i = c.loop-i.i in
    let depth = c.args.depth - 1 in
    let clean : IsCutVerdict plan cut depth (bare c.in_ok-bank.bank.lines) (AreCleanAll c.in-Clean.more) =
    subst (λ (v : CutVerdict). IsCutVerdict plan cut depth (bare c.in_ok-bank.bank.lines) v) c.in-Clean.is c.in_ok-verdict.ensures in
    let here : IsCutVerdict plan cut depth (moment cut left i) (AreCleanAll c.in-Clean.more) =
    subst (λ (ls : List LineState). IsCutVerdict plan cut depth ls (AreCleanAll c.in-Clean.more)) c.in_ok-bank.ensures clean in
    inside-more plan cut depth left i c.loop-i.effort c.in-Clean.more c.and-effort.result here c.and-effort.ensures c.loop-i.invariant

pub try_left-returns : goal.try_left-returns
try_left-returns g t c =
    let cut = g.S.Subject.cut c.args.subject.now in
    let plan = c.args.plan.now in
    let left = c.args.left.now in
    let once = c.in_ok-events.field-0 in
    let verdict : IsVerdict plan.steps cut left once.wrong = c.in_ok-events.ensures.wrong in
    let none : once.wrong ≡ None = cc (c.in-None.is) in
    let right : is_right plan.steps cut left ≡ true = left-right plan cut left once.wrong verdict none in
    let made : once.events ≡ events_of plan.steps cut left = c.in_ok-events.ensures.events in
    let same : c.in_ok-events.events ≡ once.events = cc in
    inside-last plan cut c.args.depth left c.loop-i.i c.loop-i.effort (omega arith) right (omega (arith, same, made, c.loop-i-test.false, c.loop-i.auto.i-end)) c.loop-i.invariant

pub try_all-survivors-init : goal.try_all-survivors-init
try_all-survivors-init g t c =
    let cut = g.S.Subject.cut c.args.subject.now in
    let lines = bare c.args.bank.now.lines in
    let most = c.args.most.now in
    let zeros : c.in_ok-kept.kept.items ≡ replicate (length most) 0 = c.in_ok-kept.ensures in
    record {
      n = 0;
      at = at-first most c.in_ok-kept.kept.items zeros;
      met = met-first c.args.plan.now cut c.args.depth lines c.in_ok-kept.kept.items (record { best = None; effort = c.none.result })
          (zeros ∙ ap (λ (ms : List ℕ). replicate (length ms) 0) c.requires.lines) refl c.none.ensures;
    }

pub try_all-weighed-requires : goal.try_all-weighed-requires
try_all-weighed-requires g t c =
    omega (arith, within-length c.survivors.kept.items c.args.most.now c.survivors.invariant.at.within, c.requires.few, ap (λ (ks : List ℕ). length ks) c.as_slice-counts.ensures.value)

pub try_all-survivors-preserved : goal.try_all-survivors-preserved
try_all-survivors-preserved g t c =
    let cut = g.S.Subject.cut c.args.subject.now in
    let plan = c.args.plan.now in
    let depth = c.args.depth in
    let lines = bare c.args.bank.now.lines in
    let most = c.args.most.now in
    let kept = c.survivors.kept.items in
    let inv = c.survivors.invariant in
    let next = c.advance.new.kept.items in
    let new = c.in_ok-search.search in
    let at : IsAt (pending_of lines) kept inv.n = subst (λ (ms : List ℕ). IsAt ms kept inv.n) c.requires.lines inv.at in
    let words : c.as_slice-words.result.now ≡ left_by kept lines = c.as_slice-words.ensures.value ∙ c.in_ok-left.ensures ∙ ap (λ (ks : List ℕ). left_by ks lines) c.as_slice-counts.ensures.value in
    let verdict : IsLeftVerdict plan cut depth (left_by kept lines) c.in_ok-verdict.verdict = subst (λ (ws : List (List ℕ)). IsLeftVerdict plan cut depth ws c.in_ok-verdict.verdict) words c.in_ok-verdict.ensures in
    let weighed : IsWeighed c.survivors.search kept c.in_ok-verdict.verdict new = subst (λ (ks : List ℕ). IsWeighed c.survivors.search ks c.in_ok-verdict.verdict new) c.as_slice-counts.ensures.value c.in_ok-search.ensures in
    let met : IsMet plan cut depth lines (up_to kept) (inv.n + 1) new = met-more plan cut depth lines kept inv.n c.survivors.search new c.in_ok-verdict.verdict at verdict weighed inv.met in
    record {
      n = inv.n + 1;
      at = at-next most kept next inv.n inv.at c.advance.ensures.within (c.advance.ensures.is c.if-not-advance.false) (c.advance.ensures.nearer c.if-not-advance.false);
      met = met-less plan cut depth lines (up_to kept) (before next) (inv.n + 1) new
          (λ v w m. c.advance.ensures.next c.if-not-advance.false v (subst (λ (ms : List ℕ). AreWithin v ms) (sym c.requires.lines) w) m) met;
    }

pub try_all-returns-then-not-advance : goal.try_all-returns-then-not-advance
try_all-returns-then-not-advance g t c =
    let cut = g.S.Subject.cut c.args.subject.now in
    let plan = c.args.plan.now in
    let depth = c.args.depth in
    let lines = bare c.args.bank.now.lines in
    let kept = c.survivors.kept.items in
    let inv = c.survivors.invariant in
    let new = c.in_ok-search.search in
    let at : IsAt (pending_of lines) kept inv.n = subst (λ (ms : List ℕ). IsAt ms kept inv.n) c.requires.lines inv.at in
    let words : c.as_slice-words.result.now ≡ left_by kept lines = c.as_slice-words.ensures.value ∙ c.in_ok-left.ensures ∙ ap (λ (ks : List ℕ). left_by ks lines) c.as_slice-counts.ensures.value in
    let verdict : IsLeftVerdict plan cut depth (left_by kept lines) c.in_ok-verdict.verdict = subst (λ (ws : List (List ℕ)). IsLeftVerdict plan cut depth ws c.in_ok-verdict.verdict) words c.in_ok-verdict.ensures in
    let weighed : IsWeighed c.survivors.search kept c.in_ok-verdict.verdict new = subst (λ (ks : List ℕ). IsWeighed c.survivors.search ks c.in_ok-verdict.verdict new) c.as_slice-counts.ensures.value c.in_ok-search.ensures in
    let met : IsMet plan cut depth lines (up_to kept) (inv.n + 1) new = met-more plan cut depth lines kept inv.n c.survivors.search new c.in_ok-verdict.verdict at verdict weighed inv.met in
    let last : ahead kept (pending_of lines) ≡ 0 = subst (λ (ms : List ℕ). ahead kept ms ≡ 0) c.requires.lines (c.advance.ensures.none c.if-not-advance.true) in
    subst (λ (v : CutVerdict). IsWholeVerdict plan cut depth lines v) (sym c.of_search.ensures)
    (met-last plan cut depth lines kept inv.n new at last (λ v w. c.advance.ensures.last c.if-not-advance.true v (subst (λ (ms : List ℕ). AreWithin v ms) (sym c.requires.lines) w)) met)

pub try_sample-words_left-requires : goal.try_sample-words_left-requires
try_sample-words_left-requires g t c =
    let lines = bare c.args.bank.now.lines in
    let kept = c.in_ok-kept.kept.items in
    let seeds = c.as_slice-seeds.result.now in
    let by : AreKeptBy (sample seeds c.loop-j.j) (pending_of lines) kept = subst (λ (ms : List ℕ). AreKeptBy (sample seeds c.loop-j.j) ms kept) c.requires.lines c.in_ok-kept.ensures in
    subst (λ (ks : List ℕ). AreWithin ks (pending_of lines)) (sym c.as_slice-counts.ensures.value) (kept-within (sample seeds c.loop-j.j) kept (pending_of lines) by)

pub try_sample-returns-in-Wrong : goal.try_sample-returns-in-Wrong
try_sample-returns-in-Wrong g t c =
    let cut = g.S.Subject.cut c.args.subject.now in
    let plan = c.args.plan.now in
    let depth = c.args.depth in
    let lines = bare c.args.bank.now.lines in
    let kept = c.in_ok-kept.kept.items in
    let seeds = c.as_slice-seeds.result.now in
    let j = c.loop-j.j in
    let from : seeds ≡ plan.seeds.items = c.as_slice-seeds.ensures.value in
    let by : AreKeptBy (sample plan.seeds.items j) (pending_of lines) kept =
    subst (λ (ss : List ℕ). AreKeptBy (sample ss j) (pending_of lines) kept) from (subst (λ (ms : List ℕ). AreKeptBy (sample seeds j) ms kept) c.requires.lines c.in_ok-kept.ensures) in
    let words : c.as_slice-words.result.now ≡ left_by kept lines = c.as_slice-words.ensures.value ∙ c.in_ok-left.ensures ∙ ap (λ (ks : List ℕ). left_by ks lines) c.as_slice-counts.ensures.value in
    let verdict : IsLeftVerdict plan cut depth (left_by kept lines) (IsWrongOne c.in-Wrong.miss) =
    subst (λ (v : LeftVerdict). IsLeftVerdict plan cut depth (left_by kept lines) v) c.in-Wrong.is (subst (λ (ws : List (List ℕ)). IsLeftVerdict plan cut depth ws c.in_ok-verdict.verdict) words c.in_ok-verdict.ensures) in
    sampled-wrong plan cut depth lines j kept c.loop-j.effort c.in-Wrong.miss c.found_by.result (omega (arith, ap (λ (ss : List ℕ). length ss) from, c.loop-j-test.true)) by verdict c.found_by.ensures c.loop-j.invariant

pub try_sample-loop-j-preserved : goal.try_sample-loop-j-preserved
try_sample-loop-j-preserved g t c =
    let cut = g.S.Subject.cut c.args.subject.now in
    let plan = c.args.plan.now in
    let depth = c.args.depth in
    let lines = bare c.args.bank.now.lines in
    let kept = c.in_ok-kept.kept.items in
    let seeds = c.as_slice-seeds.result.now in
    let j = c.loop-j.j in
    let by : AreKeptBy (sample plan.seeds.items j) (pending_of lines) kept =
    subst (λ (ss : List ℕ). AreKeptBy (sample ss j) (pending_of lines) kept) c.as_slice-seeds.ensures.value (subst (λ (ms : List ℕ). AreKeptBy (sample seeds j) ms kept) c.requires.lines c.in_ok-kept.ensures) in
    let words : c.as_slice-words.result.now ≡ left_by kept lines = c.as_slice-words.ensures.value ∙ c.in_ok-left.ensures ∙ ap (λ (ks : List ℕ). left_by ks lines) c.as_slice-counts.ensures.value in
    let verdict : IsLeftVerdict plan cut depth (left_by kept lines) (IsCleanOne c.in-Clean.inside) =
    subst (λ (v : LeftVerdict). IsLeftVerdict plan cut depth (left_by kept lines) v) c.in-Clean.is (subst (λ (ws : List (List ℕ)). IsLeftVerdict plan cut depth ws c.in_ok-verdict.verdict) words c.in_ok-verdict.ensures) in
    sampled-more plan cut depth lines j kept c.loop-j.effort c.in-Clean.inside c.and_survivor-effort.result by verdict c.and_survivor-effort.ensures c.loop-j.invariant

use Rattle.std.proofs.Common.{ℕ, List, ap, length, arith}
use Rattle.cilk_cert_text.specs.declared.line.Frame.{Frame}
use Rattle.cilk_checker.proofs.passes.right_of.Goals as goal

pub returns-clause-few : goal.returns-clause-few
returns-clause-few c =
    let s = c.requires in
    let counted = c.columns_are_counted.ensures s.0 c.args.trace s.1 in
    let few_frames = counted.few_frames in
    let few_owners = counted.few_owners in
    let frames = ap (λ (l : List Frame). length l) (c.in_ok-frames.ensures.frames s.0 s.1) in
    let owners = ap (λ (l : List ℕ). length l) (c.in_ok-frames.ensures.owners s.0 s.1) in
    record {
      frames = omega (arith, frames, few_frames);
      owners = omega (arith, owners, few_owners);
      hebrews = c.in_ok-labels.ensures.few_labels;
      classes = c.in_ok-labels.ensures.few_classes;
      events = omega arith;
    }

pub returns-clause-columns : goal.returns-clause-columns
returns-clause-columns c = λ s spells. record {
  spells = spells;
  frames = c.in_ok-frames.ensures.frames s spells;
  owners = c.in_ok-frames.ensures.owners s spells;
  hebrews = c.in_ok-labels.ensures.labels s spells;
  classes = c.in_ok-labels.ensures.classes s spells;
}

-- A point of the serial run, by names: a frame and the rest of its run.
use Rattle.std.proofs.Common.{◌≡◌, ℕ, suc, ℤ, IsTrue, List, sym, ap, ◌∙◌, subst}
use Rattle.cilk_program.specs.declared.ask.Ask.{Ask}
use Rattle.cilk_program.specs.declared.ask.Ask.TheVariants as asks
use Rattle.cilk_program.specs.declared.ask.Callee.{Callee}
use Rattle.cilk_program.specs.declared.ask.Callee.TheVariants as callees
use Rattle.cilk_types.specs.declared.invocation.Invocation.{Invocation}
use Rattle.cilk_program.specs.Syntax.{Source}
use Rattle.cilk_program.specs.Behaviour.{OpenAsk, asks_for, frame_asks}
use Rattle.cilk_program.specs.WellNamed.{is_well_named}
use Rattle.cilk_program.specs.Inside.{AskIsThere}
use Rattle.cilk_program.specs.SerialRun.{Transcript, act, child, Memory, Frame, root_frame, next_frame}
use Rattle.cilk_program.specs.Numbering.{Counts, counts_of, counts_after, unbegun, entered}
use Rattle.cilk_program.proofs.Asked.{asks_there}
use Rattle.cilk_program.proofs.Visible.{can_invoke}
use Rattle.cilk_determinacy.specs.FrameEnvs.{FrameEnv, first_env, child_env}
use Rattle.cilk_determinacy.proofs.Sights.{Stands, Ahead}
use Rattle.cilk_determinacy.proofs.Children.{root_ahead, child_ahead, past_ahead, root_stands, root_path, child_stands, child_path}

module _ (p : Source) (inputs : List ℤ) (well : IsTrue (is_well_named p)) (r : Transcript) where
  pub record Standing (w : FrameEnv) (fr : Frame) (j : ℕ) (rest : Transcript) (n : Counts) : Type 0 where
    pub stands : Stands p r w fr
    pub ahead : let here = stands.here in Ahead p r here.path j rest n

  -- the names in a frame's next ask exist
  pub asked_there : (w : FrameEnv) (fr : Frame) (history : List ℤ) (start left : ℕ) (a : Ask) → Stands p r w fr → frame_asks p inputs fr.callee history start ≡ asks_for a left → AskIsThere p w.callee a
  asked_there w fr history start left a h q =
      subst (λ (q : OpenAsk). AskIsThere p w.callee q.ask) (ap (λ callee. frame_asks p inputs callee history start) h.callee ∙ q) (asks_there p well w.callee h.sees.fit inputs history start)

  pub standing_act : (w : FrameEnv) (fr : Frame) (j : ℕ) (a : Ask) (v : ℤ) (rest : Transcript) (n : Counts) → Standing w fr j (act a v rest) n → Standing w fr j rest n
  standing_act w fr j a v rest n h = record { stands = h.stands; ahead = let ahead = h.ahead in record { blocks = ahead.blocks; runs = ahead.runs } }

  pub standing_child : (w : FrameEnv) (fr : Frame) (j : ℕ) (how : Invocation) (callee : Callee) (u rest : Transcript) (m : Memory) (history : List ℤ) (start left : ℕ) → Standing w fr j (child how callee u rest) (counts_of m)
      → frame_asks p inputs fr.callee history start ≡ asks_for (asks.Invoke how callee) left
      → Standing (child_env p w (suc j) callee) (next_frame p fr.scope m callee) 0 u (entered p callee (counts_of m))
  standing_child w fr j how callee u rest m history start left h q =
      let there = asked_there w fr history start left (asks.Invoke how callee) h.stands q in
      let stands = h.stands in
      let here = stands.here in
      let can = can_invoke p inputs w.callee history start left how callee (ap (λ callee. frame_asks p inputs callee history start) stands.callee ∙ q) in
      record {
        stands = child_stands p r well w fr h.stands j how callee u rest m h.ahead there can;
        ahead = subst (λ path. Ahead p r path 0 u (entered p callee (counts_of m))) (sym (child_path p r well w fr h.stands j how callee u rest m h.ahead there can)) (child_ahead p r here.path j how callee u rest (counts_of m) h.ahead);
      }

  pub standing_past : (w : FrameEnv) (fr : Frame) (j : ℕ) (how : Invocation) (callee : Callee) (u rest : Transcript) (n n' : Counts) → n' ≡ counts_after p u (entered p callee n) → Standing w fr j (child how callee u rest) n → Standing w fr (suc j) rest n'
  standing_past w fr j how callee u rest n n' e h =
      let stands = h.stands in
      let here = stands.here in
      record { stands = h.stands; ahead = subst (λ n. Ahead p r here.path (suc j) rest n) (sym e) (past_ahead p r here.path j how callee u rest n h.ahead) }

  pub standing_root : Standing (first_env p) (root_frame p inputs) 0 r (entered p callees.Root (unbegun p))
  standing_root = record { stands = root_stands p r inputs well; ahead = subst (λ path. Ahead p r path 0 r (entered p callees.Root (unbegun p))) (sym (root_path p r inputs well)) (root_ahead p r) }

use Rattle.std.proofs.Common.{◌≡◌, ◌++◌, length, sym, ap, ◌∙◌, subst, arith, append_assoc, List}
use Rattle.cilk_program.specs.declared.syntax.Stmt.{Stmt}
use Rattle.cilk_program.specs.Programs.{function, statements}
use Rattle.cilk_program.specs.declared.syntax.ReducerPlace.TheVariants as reducers
use Rattle.cilk_lower.specs.declared.code.Instr.{Instr}
use Rattle.cilk_lower.specs.Code.{SitesFit, all_code, all_sites, creates_code, ends, words_code}
use Rattle.cilk_lower.specs.Rooms.{deepest_of_all}
use Rattle.cilk_lower.proofs.emitter.Emitter.emit_function.Goals as goal

four_parts : (base a b d e c1 c2 c3 c4 : List Instr) → c1 ≡ base ++ a → c2 ≡ c1 ++ b → c3 ≡ c2 ++ d → c4 ≡ c3 ++ e → c4 ≡ base ++ (a ++ (b ++ (d ++ e)))
four_parts base a b d e c1 c2 c3 c4 e1 e2 e3 e4 = e4 ∙ ap (λ l. l ++ e) (e3 ∙ ap (λ l. l ++ d) (e2 ∙ ap (λ l. l ++ b) e1)) ∙ simp append_assoc

pub emit_all-requires : goal.emit_all-requires
emit_all-requires c = subst (λ (row : List Stmt). SitesFit (all_sites (statements row))) (sym c.deref.ensures.value) c.requires.sites

pub returns-clause-code : goal.returns-clause-code
returns-clause-code c =
    let base = c.args.self.now.instrs.items in
    let f = c.args.f.now in
    let g = function f in
    let k = length c.args.self.now.sites.items in
    four_parts base _ _ _ _ _ _ _ _ c.in_ok-put_words.ensures c.in_ok-put_own.ensures c.in_ok-emit_all.ensures.code c.in_ok-put_ends.ensures
    ∙ ap (λ ks. base ++ (words_code 0 f.words ++ (creates_code (reducers.Own 0) 0 ks ++ (all_code k (statements c.deref.result.now) ++ ends)))) c.as_slice.ensures
    ∙ ap (λ row. base ++ (words_code 0 f.words ++ (creates_code (reducers.Own 0) 0 g.reducers ++ (all_code k (statements row) ++ ends)))) c.deref.ensures.value

pub returns-clause-sites : goal.returns-clause-sites
returns-clause-sites c =
    let sites = c.args.self.now.sites.items in
    c.in_ok-emit_all.ensures.sites ∙ ap (λ row. sites ++ all_sites (statements row)) c.deref.ensures.value

pub returns-clause-room : goal.returns-clause-room
returns-clause-room c = omega (arith, c.in_ok-emit_all.ensures.room, ap (λ row. deepest_of_all (statements row)) c.deref.ensures.value)

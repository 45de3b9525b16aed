-- Tokens that spell a tree are read to their end, and their flags are those of the tree.
use Rattle.std.proofs.Common.{◌≡◌, ℕ, pos, ◌+◌, ◌≤◌, Bool, true, false, cond, List, [], ◌∷◌, inl, inr, Option, Some, None, refl, sym, ap, ◌∙◌, subst, arith}
use Rattle.cilk_syntax.specs.declared.token.Kind.{Kind}
use Rattle.cilk_syntax.specs.declared.token.Kind.TheVariants as kinds
use Rattle.cilk_syntax.specs.declared.token.Token.{Token}
use Rattle.cilk_syntax.specs.declared.marks.Punct.TheVariants as marks
use Rattle.cilk_syntax.specs.declared.tree.Name.{Name}
use Rattle.cilk_syntax.specs.declared.tree.UnaryOperator.TheVariants.{Negate, Not}
use Rattle.cilk_syntax.specs.declared.tree.BinaryOperator.{BinaryOperator}
use Rattle.cilk_syntax.specs.declared.tree.BinaryOperator.TheVariants as operators
use Rattle.cilk_types.specs.declared.compound.Compound.{Compound}
use Rattle.cilk_types.specs.declared.compound.Compound.TheVariants as compounds
use Rattle.cilk_types.specs.declared.invocation.Invocation.{Invocation}
use Rattle.cilk_types.specs.declared.invocation.Invocation.TheVariants as invocations
use Rattle.cilk_syntax.specs.declared.tree.ReturnType.TheVariants as types
use Rattle.cilk_syntax.specs.declared.tree.Reducer as reducers
use Rattle.cilk_syntax.specs.declared.tree.Initializer.{Initializer}
use Rattle.cilk_syntax.specs.declared.tree.Initializer.TheVariants as initializers
use Rattle.cilk_syntax.specs.declared.tree.GlobalVariable.{GlobalVariable}
use Rattle.cilk_syntax.specs.declared.tree.GlobalVariable.TheVariants as globals
use Rattle.cilk_syntax.specs.declared.tree.Parameter as declared_parameters
use Rattle.cilk_syntax.specs.declared.tree.Parameter.TheVariants as parameters
use Rattle.cilk_syntax.specs.Trees as trees
use Rattle.cilk_syntax.specs.Trees.{Expression, Number, Group, Unary, Binary, Input, InputCount, Argument, Call, Local, LocalInitializer, Statement, Statements, End, Then}
use Rattle.cilk_syntax.specs.Limits as limits
use Rattle.cilk_syntax.specs.Limits.{Flags, flag, where_next, is_deep, is_many, is_step, is_sum, is_void, excess, excess_inside, excess_optional, excess_arguments, excess_called, excess_invoked, excess_place, excess_stepped, excess_assignment, excess_local_initializer, excess_locals, excess_declaration, excess_reducer, excess_beginning, excess_step, excess_unit_step, excess_bounds, excess_update, excess_stmt, excess_all, excess_initializer, excess_global, excess_more, excess_variables, excess_parameter, excess_more_parameters, excess_parameters, excess_function, excess_item, excess_items}
use Rattle.cilk_syntax.specs.Expected as expected
use Rattle.cilk_syntax.specs.Expected.{Symbol, One, Named, Numeral, Single, Operand, Index, Tail, Anew, Optional, ElsePart, AfterName, Subscript, Operation, Source, SourceRest, Arguments, MoreArguments, Declaration, LocalInitial, Locals, Step, UnitStep, UnitStepRest, Item, Declared, Literal, Initial, Variables, Parameters, MoreParameters, Items, Goes, Fails, after}
use Rattle.cilk_syntax.specs.Grammar.{Is, IsName, mark_of, compound_mark, level, level_in, SpellsExpr, SpellsInside, SpellsOptional, SpellsArgument, SpellsMoreArguments, SpellsArguments, SpellsCall, SpellsInvoked, SpellsLvalue, SpellsStepped, SpellsTaken, SpellsAssignment, SpellsLocalInitializer, SpellsLocal, SpellsMoreLocals, SpellsLocals, SpellsLocalLine, SpellsReducer, SpellsDefined, SpellsTested, SpellsUnit, SpellsUnitStep, SpellsBeginning, SpellsStep, SpellsHead, SpellsBounds, SpellsUpdate, SpellsStmt, SpellsAll, SpellsLiteral, SpellsInitializer, SpellsGlobal, SpellsMore, SpellsVariables, SpellsLine, SpellsParameter, SpellsMoreParameters, SpellsParameters, SpellsBody, SpellsFunction, SpellsItem, SpellsItems}
use Rattle.cilk_parser.proofs.Traces.{trace, goes, Shut, no_index, no_subscript, absent, no_source, declares, declares_locals, some_value, some_argument, begins_assigning, steps_assigning, takes_value, assigns, ends_local, ends_argument, repeats, no_else}

named : (name : Name) (ts rest : List Token) → IsName name ts rest → Is kinds.Name ts rest
named name ts rest h = (h.0, h.1, h.2)

pub low : (op : BinaryOperator) → level op ≤ 5
low operators.Or = omega arith
low operators.And = omega arith
low operators.Equal = omega arith
low operators.NotEqual = omega arith
low operators.Less = omega arith
low operators.LessEqual = omega arith
low operators.Greater = omega arith
low operators.GreaterEqual = omega arith
low operators.Add = omega arith
low operators.Subtract = omega arith
low operators.Multiply = omega arith
low operators.Divide = omega arith
low operators.Remainder = omega arith

-- an operator continues with its right side
operated : (op : BinaryOperator) (d : ℕ) (stack : List Symbol) (n : ℕ) → after (Tail d ∷ stack) n (mark_of op) ≡ Goes (is_many (n + 1)) (Operand d ∷ Tail d ∷ stack) (n + 1)
operated operators.Or d stack n = refl
operated operators.And d stack n = refl
operated operators.Equal d stack n = refl
operated operators.NotEqual d stack n = refl
operated operators.Less d stack n = refl
operated operators.LessEqual d stack n = refl
operated operators.Greater d stack n = refl
operated operators.GreaterEqual d stack n = refl
operated operators.Add d stack n = refl
operated operators.Subtract d stack n = refl
operated operators.Multiply d stack n = refl
operated operators.Divide d stack n = refl
operated operators.Remainder d stack n = refl

counted : (ts : List Token) (stack : List Symbol) (n m : ℕ) (past : List Bool) → n ≡ m → trace ts stack m ≡ Some past → trace ts stack n ≡ Some past
counted ts stack n m past e h = ap (λ x. trace ts stack x) e ∙ h

-- no token is needed
nothing : (ts rest : List Token) (stack : List Symbol) (more : Flags) → ts ≡ rest → trace rest stack 0 ≡ Some (more rest) → trace ts stack 0 ≡ Some (more ts)
nothing ts rest stack more h k = subst (λ x. trace x stack 0 ≡ Some (more x)) (sym h) k

-- an expression as a part, if it is one, and with operators after it
abbrev PartReads : Expression → Type 0
PartReads e = (ts rest : List Token) (d n m : ℕ) (stack : List Symbol) (more : Flags) → SpellsExpr e ts rest → 6 ≤ level_in e → m ≡ n + limits.operators e → Shut stack → trace rest stack m ≡ Some (more rest) → trace ts (Operand d ∷ stack) n ≡ Some (excess e d n more ts)

abbrev ExprReads : Expression → Type 0
ExprReads e = (ts rest : List Token) (d n m : ℕ) (stack : List Symbol) (more : Flags) → SpellsExpr e ts rest → m ≡ n + limits.operators e → Shut stack → trace rest (Tail d ∷ stack) m ≡ Some (more rest) → trace ts (Operand d ∷ Tail d ∷ stack) n ≡ Some (excess e d n more ts)

record Reads (e : Expression) : Type 0 where
  part : PartReads e
  whole : ExprReads e

of_part : (e : Expression) → 6 ≤ level_in e → PartReads e → Reads e
of_part e l p = record {
  part = p;
  whole = λ ts rest d n m stack more h c s k. p ts rest d n m (Tail d ∷ stack) more h l c s k;
}

number_reads : (v : _) → PartReads (Number v)
number_reads v ts rest d n m stack more h l c s k =
    goes (kinds.Number v) ts rest (Operand d ∷ stack) stack n n (is_deep d) more h refl (counted rest stack n m (more rest) (omega (arith, c)) k)

variable_reads : (v : Name) → PartReads (Expression.Variable v)
variable_reads v ts rest d n m stack more h l c s k =
    goes kinds.Name ts rest (Operand d ∷ stack) (Index d ∷ stack) n n (is_deep d) more (named v ts rest h) refl
    (no_index rest d stack n (more rest) s (counted rest stack n m (more rest) (omega (arith, c)) k))

element_reads : (v : Name) (e : Expression) → ExprReads e → PartReads (Expression.Element v e)
element_reads v e ih ts rest d n m stack more h l c s k =
    goes kinds.Name ts h.0 (Operand d ∷ stack) (Index d ∷ stack) n n (is_deep d) (flag false (excess e (d + 1) n (flag false more))) (named v ts h.0 h.3) refl
    (goes kinds.OpenBracket h.0 h.1 (Index d ∷ stack) (Operand (d + 1) ∷ Tail (d + 1) ∷ One marks.CloseBracket ∷ stack) n n false (excess e (d + 1) n (flag false more)) h.4 refl
    (ih h.1 h.2 (d + 1) n m (One marks.CloseBracket ∷ stack) (flag false more) h.5 c (λ x. refl)
    (goes kinds.CloseBracket h.2 rest (Tail (d + 1) ∷ One marks.CloseBracket ∷ stack) stack m m false more h.6 refl k)))

group_reads : (e : Expression) → ExprReads e → PartReads (Group e)
group_reads e ih ts rest d n m stack more h l c s k =
    goes kinds.Open ts h.0 (Operand d ∷ stack) (Operand (d + 1) ∷ Tail (d + 1) ∷ One marks.Close ∷ stack) n n (is_deep d) (excess e (d + 1) n (flag false more)) h.2 refl
    (ih h.0 h.1 (d + 1) n m (One marks.Close ∷ stack) (flag false more) h.3 c (λ x. refl) (goes kinds.Close h.1 rest (Tail (d + 1) ∷ One marks.Close ∷ stack) stack m m false more h.4 refl k))

unary_reads : (op : _) (e : Expression) → PartReads e → PartReads (Unary op e)
unary_reads Negate e ih ts rest d n m stack more h l c s k =
    goes kinds.Minus ts h.0 (Operand d ∷ stack) (Operand (d + 1) ∷ stack) n (n + 1) _ (excess e (d + 1) (n + 1) more) h.1 refl (ih h.0 rest (d + 1) (n + 1) m stack more h.2 h.3 (omega (arith, c)) s k)
unary_reads Not e ih ts rest d n m stack more h l c s k =
    goes kinds.Not ts h.0 (Operand d ∷ stack) (Operand (d + 1) ∷ stack) n (n + 1) _ (excess e (d + 1) (n + 1) more) h.1 refl (ih h.0 rest (d + 1) (n + 1) m stack more h.2 h.3 (omega (arith, c)) s k)

value_reads : (v : Name) → PartReads (Expression.Value v)
value_reads v ts rest d n m stack more h l c s k =
    goes kinds.Value ts h.0 (Operand d ∷ stack) (One marks.Open ∷ Named ∷ One marks.Close ∷ stack) n n (is_deep d) (flag false (flag false (flag false more))) h.3 refl
    (goes kinds.Open h.0 h.1 (One marks.Open ∷ Named ∷ One marks.Close ∷ stack) (Named ∷ One marks.Close ∷ stack) n n false (flag false (flag false more)) h.4 refl
    (goes kinds.Name h.1 h.2 (Named ∷ One marks.Close ∷ stack) (One marks.Close ∷ stack) n n false (flag false more) (named v h.1 h.2 h.5) refl
    (goes kinds.Close h.2 rest (One marks.Close ∷ stack) stack n n false more h.6 refl (counted rest stack n m (more rest) (omega (arith, c)) k))))

input_reads : (e : Expression) → ExprReads e → PartReads (Input e)
input_reads e ih ts rest d n m stack more h l c s k =
    goes kinds.Input ts h.0 (Operand d ∷ stack) (One marks.Open ∷ Operand (d + 1) ∷ Tail (d + 1) ∷ One marks.Close ∷ stack) n n (is_deep d) (flag false (excess e (d + 1) n (flag false more))) h.3 refl
    (goes kinds.Open h.0 h.1 (One marks.Open ∷ Operand (d + 1) ∷ Tail (d + 1) ∷ One marks.Close ∷ stack) (Operand (d + 1) ∷ Tail (d + 1) ∷ One marks.Close ∷ stack) n n false (excess e (d + 1) n (flag false more)) h.4 refl
    (ih h.1 h.2 (d + 1) n m (One marks.Close ∷ stack) (flag false more) h.5 c (λ x. refl) (goes kinds.Close h.2 rest (Tail (d + 1) ∷ One marks.Close ∷ stack) stack m m false more h.6 refl k)))

count_reads : PartReads InputCount
count_reads ts rest d n m stack more h l c s k =
    goes kinds.InputCount ts h.0 (Operand d ∷ stack) (One marks.Open ∷ One marks.Close ∷ stack) n n (is_deep d) (flag false (flag false more)) h.2 refl
    (goes kinds.Open h.0 h.1 (One marks.Open ∷ One marks.Close ∷ stack) (One marks.Close ∷ stack) n n false (flag false more) h.3 refl
    (goes kinds.Close h.1 rest (One marks.Close ∷ stack) stack n n false more h.4 refl (counted rest stack n m (more rest) (omega (arith, c)) k)))

binary_reads : (op : BinaryOperator) (a b : Expression) → ExprReads a → ExprReads b → Reads (Binary op a b)
binary_reads op a b left right = record {
  part = λ ts rest d n m stack more h l c s k. absurd (omega (arith, l, low op));
  whole = λ ts rest d n m stack more h c s k.
      left ts h.0 d n (n + limits.operators a) stack (flag (is_many (n + limits.operators a + 1)) (excess b d (n + limits.operators a + 1) more)) h.2 refl s
      (goes (mark_of op) h.0 h.1 (Tail d ∷ stack) (Operand d ∷ Tail d ∷ stack) (n + limits.operators a) (n + limits.operators a + 1) _ (excess b d (n + limits.operators a + 1) more) h.4 (operated op d stack (n + limits.operators a))
      (right h.1 rest d (n + limits.operators a + 1) m stack more h.5 (omega (arith, c)) s k));
}

reads : (e : Expression) → Reads e
reads (Number v) = of_part (Number v) (omega arith) (number_reads v)
reads (Expression.Variable v) = of_part (Expression.Variable v) (omega arith) (variable_reads v)
reads (Expression.Element v e) = of_part (Expression.Element v e) (omega arith) (element_reads v e (reads e).whole)
reads (Group e) = of_part (Group e) (omega arith) (group_reads e (reads e).whole)
reads (Unary op e) = of_part (Unary op e) (omega arith) (unary_reads op e (reads e).part)
reads (Binary op a b) = binary_reads op a b (reads a).whole (reads b).whole
reads (Expression.Value v) = of_part (Expression.Value v) (omega arith) (value_reads v)
reads (Input e) = of_part (Input e) (omega arith) (input_reads e (reads e).whole)
reads InputCount = of_part InputCount (omega arith) count_reads

-- an expression whose operators are counted separately
whole_reads : (e : Expression) (ts rest : List Token) (d : ℕ) (stack : List Symbol) (more : Flags) → SpellsExpr e ts rest → Shut stack → ((m : ℕ) → trace rest (Tail d ∷ Anew ∷ stack) m ≡ Some (more rest)) → trace ts (Operand d ∷ Tail d ∷ Anew ∷ stack) 0 ≡ Some (excess e d 0 more ts)
whole_reads e ts rest d stack more h s k =
    (reads e).whole ts rest d 0 (limits.operators e) (Anew ∷ stack) more h (omega arith) (λ n. s 0) (k (limits.operators e))

-- and the mark after it
ended_reads : (e : Expression) (ts ts1 rest : List Token) (d : ℕ) (stack : List Symbol) (more : Flags) → SpellsExpr e ts ts1 → Is kinds.Semicolon ts1 rest → trace rest stack 0 ≡ Some (more rest) → trace ts (Operand d ∷ Tail d ∷ Anew ∷ One marks.Semicolon ∷ stack) 0 ≡ Some (excess e d 0 (flag false more) ts)
ended_reads e ts ts1 rest d stack more h is k =
    whole_reads e ts ts1 d (One marks.Semicolon ∷ stack) (flag false more) h (λ n. refl)
    (λ m. goes kinds.Semicolon ts1 rest (Tail d ∷ Anew ∷ One marks.Semicolon ∷ stack) stack m 0 false more is refl k)

closed_reads : (e : Expression) (ts ts1 rest : List Token) (d : ℕ) (stack : List Symbol) (more : Flags) → SpellsExpr e ts ts1 → Is kinds.Close ts1 rest → trace rest stack 0 ≡ Some (more rest) → trace ts (Operand d ∷ Tail d ∷ Anew ∷ One marks.Close ∷ stack) 0 ≡ Some (excess e d 0 (flag false more) ts)
closed_reads e ts ts1 rest d stack more h is k =
    whole_reads e ts ts1 d (One marks.Close ∷ stack) (flag false more) h (λ n. refl)
    (λ m. goes kinds.Close ts1 rest (Tail d ∷ Anew ∷ One marks.Close ∷ stack) stack m 0 false more is refl k)

indexed_reads : (e : Expression) (ts ts1 rest : List Token) (d : ℕ) (stack : List Symbol) (more : Flags) → SpellsExpr e ts ts1 → Is kinds.CloseBracket ts1 rest → trace rest stack 0 ≡ Some (more rest) → trace ts (Operand d ∷ Tail d ∷ Anew ∷ One marks.CloseBracket ∷ stack) 0 ≡ Some (excess e d 0 (flag false more) ts)
indexed_reads e ts ts1 rest d stack more h is k =
    whole_reads e ts ts1 d (One marks.CloseBracket ∷ stack) (flag false more) h (λ n. refl)
    (λ m. goes kinds.CloseBracket ts1 rest (Tail d ∷ Anew ∷ One marks.CloseBracket ∷ stack) stack m 0 false more is refl k)

inside_reads : (e : Expression) (ts rest : List Token) (d : ℕ) (stack : List Symbol) (more : Flags) → SpellsInside e ts rest → trace rest stack 0 ≡ Some (more rest) → trace ts (One marks.Open ∷ Operand d ∷ Tail d ∷ Anew ∷ One marks.Close ∷ stack) 0 ≡ Some (excess_inside e d more ts)
unfolding SpellsInside
inside_reads e ts rest d stack more h k =
    goes kinds.Open ts h.0 (One marks.Open ∷ Operand d ∷ Tail d ∷ Anew ∷ One marks.Close ∷ stack) (Operand d ∷ Tail d ∷ Anew ∷ One marks.Close ∷ stack) 0 0 false (excess e d 0 (flag false more)) h.2 refl
    (closed_reads e h.0 h.1 rest d stack more h.3 h.4 k)

optional_reads : (v : Option Expression) (ts rest : List Token) (d : ℕ) (stack : List Symbol) (more : Flags) → SpellsOptional v ts rest → trace rest stack 0 ≡ Some (more rest) → trace ts (Optional d ∷ stack) 0 ≡ Some (excess_optional v d more ts)
unfolding SpellsOptional
optional_reads None ts rest d stack more h k = goes kinds.Semicolon ts rest (Optional d ∷ stack) stack 0 0 false more h refl k
optional_reads (Some e) ts rest d stack more h k =
    some_value ts d stack 0 (excess e d 0 (flag false more) ts) (ended_reads e ts h.0 rest d stack more h.1 h.2 k)

argument_reads : (a : Argument) (ts rest : List Token) (d : ℕ) (stack : List Symbol) (more : Flags) → SpellsArgument a ts rest → trace rest (MoreArguments d ∷ stack) 0 ≡ Some (more rest) → trace ts (Operand d ∷ Tail d ∷ Anew ∷ MoreArguments d ∷ stack) 0 ≡ Some (excess a.value d 0 more ts)
argument_reads a ts rest d stack more h k =
    whole_reads a.value ts rest d (MoreArguments d ∷ stack) more h.4 (λ n. refl) (λ m. ends_argument rest d stack m (more rest) k)

-- the rest of a call after its opening parenthesis
abbrev excess_listed : List Argument → ℕ → Flags → Flags
excess_listed [] d more = flag false more
excess_listed (a ∷ list) d more = excess a.value d 0 (excess_arguments list d (flag false more))

opened : (list : List Argument) (d : ℕ) (more : Flags) (ts : List Token) → flag false (excess_listed list d more) ts ≡ excess_called list d more ts
opened [] d more ts = refl
opened (a ∷ list) d more ts = refl

more_arguments_read : (list : List Argument) (ts rest : List Token) (d : ℕ) (stack : List Symbol) (more : Flags) → SpellsMoreArguments list ts rest → trace rest (MoreArguments d ∷ stack) 0 ≡ Some (more rest) → trace ts (MoreArguments d ∷ stack) 0 ≡ Some (excess_arguments list d more ts)
more_arguments_read [] ts rest d stack more h k = nothing ts rest (MoreArguments d ∷ stack) more h k
more_arguments_read (a ∷ list) ts rest d stack more h k =
    goes kinds.Comma ts h.0 (MoreArguments d ∷ stack) (Operand d ∷ Tail d ∷ Anew ∷ MoreArguments d ∷ stack) 0 0 false (excess a.value d 0 (excess_arguments list d more)) h.2 refl
    (argument_reads a h.0 h.1 d stack (excess_arguments list d more) h.3 (more_arguments_read list h.1 rest d stack more h.4 k))

arguments_read : (list : List Argument) (ts rest : List Token) (d : ℕ) (stack : List Symbol) (more : Flags) → SpellsArguments list ts rest → trace rest stack 0 ≡ Some (more rest) → trace ts (Arguments d ∷ stack) 0 ≡ Some (excess_listed list d more ts)
arguments_read [] ts rest d stack more h k = goes kinds.Close ts rest (Arguments d ∷ stack) stack 0 0 false more h refl k
arguments_read (a ∷ list) ts rest d stack more h k =
    some_argument ts d stack 0 (excess_listed (a ∷ list) d more ts)
    (argument_reads a ts h.1.0 d stack (excess_arguments list d (flag false more)) h.1.1
    (more_arguments_read list h.1.0 h.0 d stack (flag false more) h.1.2 (goes kinds.Close h.0 rest (MoreArguments d ∷ stack) stack 0 0 false more h.2 refl k)))

called_reads : (list : List Argument) (ts ts1 rest : List Token) (d : ℕ) (front : Symbol) (behind stack : List Symbol) (more : Flags) → Is kinds.Open ts ts1 → SpellsArguments list ts1 rest → after (front ∷ behind) 0 kinds.Open ≡ Goes false (Arguments d ∷ stack) 0 → trace rest stack 0 ≡ Some (more rest) → trace ts (front ∷ behind) 0 ≡ Some (excess_called list d more ts)
called_reads list ts ts1 rest d front behind stack more is h e k =
    goes kinds.Open ts ts1 (front ∷ behind) (Arguments d ∷ stack) 0 0 false (excess_listed list d more) is e (arguments_read list ts1 rest d stack more h k)
    ∙ ap Some (opened list d more ts)

spawned_reads : (c : Call) (ts rest : List Token) (d : ℕ) (stack : List Symbol) (more : Flags) → SpellsCall c ts rest → trace rest stack 0 ≡ Some (more rest) → trace ts (Named ∷ One marks.Open ∷ Arguments d ∷ stack) 0 ≡ Some (flag false (excess_called c.arguments d more) ts)
unfolding SpellsCall
spawned_reads c ts rest d stack more h k =
    goes kinds.Name ts h.0 (Named ∷ One marks.Open ∷ Arguments d ∷ stack) (One marks.Open ∷ Arguments d ∷ stack) 0 0 false (excess_called c.arguments d more) (named c.name ts h.0 h.2) refl
    (called_reads c.arguments h.0 h.1 rest d (One marks.Open) (Arguments d ∷ stack) stack more h.3 h.4 refl k)

invoked_reads : (how : Invocation) (c : Call) (ts rest : List Token) (d : ℕ) (stack : List Symbol) (more : Flags) → SpellsInvoked how c ts rest → trace rest stack 0 ≡ Some (more rest) → trace ts (Source d ∷ stack) 0 ≡ Some (excess_invoked how c d more ts)
unfolding SpellsCall
invoked_reads invocations.Call c ts rest d stack more h k =
    goes kinds.Name ts h.0 (Source d ∷ stack) (SourceRest d ∷ stack) 0 0 (is_deep d) (excess_called c.arguments d more) (named c.name ts h.0 h.2) refl
    (called_reads c.arguments h.0 h.1 rest d (SourceRest d) stack stack more h.3 h.4 refl k)
invoked_reads invocations.Spawn c ts rest d stack more h k =
    goes kinds.CilkSpawn ts h.0 (Source d ∷ stack) (Named ∷ One marks.Open ∷ Arguments d ∷ stack) 0 0 (is_deep d) (flag false (excess_called c.arguments d more)) h.1 refl
    (spawned_reads c h.0 rest d stack more h.2 k)

-- a call as a statement
call_reads : (how : Invocation) (c : Call) (ts ts1 rest : List Token) (d : ℕ) (stack : List Symbol) (more : Flags) → SpellsInvoked how c ts ts1 → Is kinds.Semicolon ts1 rest → trace rest stack 0 ≡ Some (more rest) → trace ts (expected.Statement d ∷ stack) 0 ≡ Some (excess_invoked how c d (flag false more) ts)
unfolding SpellsCall
call_reads invocations.Call c ts ts1 rest d stack more h is k =
    goes kinds.Name ts h.0 (expected.Statement d ∷ stack) (AfterName d ∷ stack) 0 0 (is_deep d) (excess_called c.arguments d (flag false more)) (named c.name ts h.0 h.2) refl
    (called_reads c.arguments h.0 h.1 ts1 d (AfterName d) stack (One marks.Semicolon ∷ stack) (flag false more) h.3 h.4 refl
    (goes kinds.Semicolon ts1 rest (One marks.Semicolon ∷ stack) stack 0 0 false more is refl k))
call_reads invocations.Spawn c ts ts1 rest d stack more h is k =
    goes kinds.CilkSpawn ts h.0 (expected.Statement d ∷ stack) (Named ∷ One marks.Open ∷ Arguments d ∷ One marks.Semicolon ∷ stack) 0 0 (is_deep d) (flag false (excess_called c.arguments d (flag false more))) h.1 refl
    (spawned_reads c h.0 ts1 d (One marks.Semicolon ∷ stack) (flag false more) h.2
    (goes kinds.Semicolon ts1 rest (One marks.Semicolon ∷ stack) stack 0 0 false more is refl k))

-- a form that reads the subscript of a place reads it before these symbols
abbrev Behind : ℕ → List Symbol → List Symbol → Type 0
Behind d stack behind = (us : List Token) (past : List Bool) → trace us (Subscript d ∷ stack) 0 ≡ Some past → trace us behind 0 ≡ Some past

place_reads : (p : trees.Lvalue) (ts rest : List Token) (d : ℕ) (b : Bool) (front behind stack : List Symbol) (more : Flags) → SpellsLvalue p ts rest → after front 0 kinds.Name ≡ Goes b behind 0 → Behind d stack behind → Shut stack → trace rest stack 0 ≡ Some (more rest) → trace ts front 0 ≡ Some (excess_place p b d more ts)
place_reads (trees.Lvalue.Variable name) ts rest d b front behind stack more h e f s k =
    goes kinds.Name ts rest front behind 0 0 b more (named name ts rest h) e (f rest (more rest) (no_subscript rest d stack 0 (more rest) s k))
place_reads (trees.Lvalue.Element name i) ts rest d b front behind stack more h e f s k =
    goes kinds.Name ts h.0 front behind 0 0 b (excess_inside i (d + 1) more) (named name ts h.0 h.3) e
    (f h.0 (excess_inside i (d + 1) more h.0)
    (goes kinds.OpenBracket h.0 h.1 (Subscript d ∷ stack) (Operand (d + 1) ∷ Tail (d + 1) ∷ Anew ∷ One marks.CloseBracket ∷ stack) 0 0 false (excess i (d + 1) 0 (flag false more)) h.4 refl
    (indexed_reads i h.1 h.2 rest (d + 1) stack more h.5 h.6 k)))

first_name : (p : trees.Lvalue) (ts rest : List Token) → SpellsLvalue p ts rest → (us : List Token) × Is kinds.Name ts us
first_name (trees.Lvalue.Variable name) ts rest h = (rest, named name ts rest h)
first_name (trees.Lvalue.Element name i) ts rest h = (h.0, named name ts h.0 h.3)

where_is : (is : Kind → Bool) (first second : Flags) (kind : Kind) (ts rest : List Token) → Is kind ts rest → is kind ≡ true → where_next is first second ts ≡ first ts
where_is is first second kind ts rest h e =
    ap (where_next is first second) h.1 ∙ (ap (λ b. cond b (first (h.0 ∷ rest)) (second (h.0 ∷ rest))) (ap is h.2 ∙ e) ∙ ap first (sym h.1))

where_isnt : (is : Kind → Bool) (first second : Flags) (kind : Kind) (ts rest : List Token) → Is kind ts rest → is kind ≡ false → where_next is first second ts ≡ second ts
where_isnt is first second kind ts rest h e =
    ap (where_next is first second) h.1 ∙ (ap (λ b. cond b (first (h.0 ∷ rest)) (second (h.0 ∷ rest))) (ap is h.2 ∙ e) ∙ ap second (sym h.1))

-- an assignment begins before the symbols, and other symbols follow it
record Begins (d : ℕ) (b : Bool) (front behind stack : List Symbol) : Type 0 where
  name : after front 0 kinds.Name ≡ Goes b behind 0
  more : after front 0 kinds.Increment ≡ Goes b (Named ∷ Subscript d ∷ stack) 0
  less : after front 0 kinds.Decrement ≡ Goes b (Named ∷ Subscript d ∷ stack) 0
  subscript : Behind d (Operation d ∷ stack) behind
  shut : Shut stack

taken_reads : (kind : Kind) (p : trees.Lvalue) (e : Expression) (ts rest : List Token) (d : ℕ) (b : Bool) (front behind stack : List Symbol) (more : Flags) → Begins d b front behind stack → after (Operation d ∷ stack) 0 kind ≡ Goes false (Operand d ∷ Tail d ∷ Anew ∷ stack) 0 → SpellsTaken kind p e ts rest → ((m : ℕ) → trace rest (Tail d ∷ Anew ∷ stack) m ≡ Some (more rest)) → trace ts front 0 ≡ Some (excess_place p b d (flag false (excess e d 0 more)) ts)
taken_reads kind p e ts rest d b front behind stack more begins is h k =
    place_reads p ts h.0 d b front behind (Operation d ∷ stack) (flag false (excess e d 0 more)) h.2 begins.name begins.subscript (λ n. refl)
    (goes kind h.0 h.1 (Operation d ∷ stack) (Operand d ∷ Tail d ∷ Anew ∷ stack) 0 0 false (excess e d 0 more) h.3 is
    (whole_reads e h.1 rest d stack more h.4 begins.shut k))

stepped_reads : (kind : Kind) (p : trees.Lvalue) (ts rest : List Token) (d : ℕ) (b : Bool) (front behind stack : List Symbol) (more : Flags) → Begins d b front behind stack → is_step kind ≡ true → after front 0 kind ≡ Goes b (Named ∷ Subscript d ∷ stack) 0 → after (Operation d ∷ stack) 0 kind ≡ Goes false stack 0 → SpellsStepped kind p ts rest → trace rest stack 0 ≡ Some (more rest) → trace ts front 0 ≡ Some (excess_stepped p b d more ts)
stepped_reads kind p ts rest d b front behind stack more begins step first last (inl h) k =
    goes kind ts h.0 front (Named ∷ Subscript d ∷ stack) 0 0 b (excess_place p false d more) h.1 first
    (place_reads p h.0 rest d false (Named ∷ Subscript d ∷ stack) (Subscript d ∷ stack) stack more h.2 refl (λ us past z. z) begins.shut k)
    ∙ ap Some (sym (where_is is_step (flag b (excess_place p false d more)) (excess_place p b d (flag false more)) kind ts h.0 h.1 step))
stepped_reads kind p ts rest d b front behind stack more begins step first last (inr h) k =
    let name = first_name p ts h.0 h.1 in
    place_reads p ts h.0 d b front behind (Operation d ∷ stack) (flag false more) h.1 begins.name begins.subscript (λ n. refl)
    (goes kind h.0 rest (Operation d ∷ stack) stack 0 0 false more h.2 last k)
    ∙ ap Some (sym (where_isnt is_step (flag b (excess_place p false d more)) (excess_place p b d (flag false more)) kinds.Name ts name.0 name.1 refl))

compounded : (op : Compound) (d : ℕ) (stack : List Symbol) → after (Operation d ∷ stack) 0 (compound_mark op) ≡ Goes false (Operand d ∷ Tail d ∷ Anew ∷ stack) 0
compounded compounds.Add d stack = refl
compounded compounds.Subtract d stack = refl
compounded compounds.Multiply d stack = refl

assignment_reads : (a : trees.Assignment) (ts rest : List Token) (d : ℕ) (b : Bool) (front behind stack : List Symbol) (more : Flags) → Begins d b front behind stack → SpellsAssignment a ts rest → ((m : ℕ) → trace rest (Tail d ∷ Anew ∷ stack) m ≡ Some (more rest)) → trace rest stack 0 ≡ Some (more rest) → trace ts front 0 ≡ Some (excess_assignment a b d more ts)
assignment_reads (trees.Assignment.Set p e) ts rest d b front behind stack more begins h t k =
    taken_reads kinds.Assign p e ts rest d b front behind stack more begins refl h t
assignment_reads (trees.Compound op p e) ts rest d b front behind stack more begins h t k =
    taken_reads (compound_mark op) p e ts rest d b front behind stack more begins (compounded op d stack) h t
assignment_reads (trees.Increment p) ts rest d b front behind stack more begins h t k =
    stepped_reads kinds.Increment p ts rest d b front behind stack more begins refl begins.more refl h k
assignment_reads (trees.Decrement p) ts rest d b front behind stack more begins h t k =
    stepped_reads kinds.Decrement p ts rest d b front behind stack more begins refl begins.less refl h k

-- an assignment as a statement
assign_reads : (a : trees.Assignment) (ts ts1 rest : List Token) (d : ℕ) (stack : List Symbol) (more : Flags) → SpellsAssignment a ts ts1 → Is kinds.Semicolon ts1 rest → trace rest stack 0 ≡ Some (more rest) → trace ts (expected.Statement d ∷ stack) 0 ≡ Some (excess_assignment a (is_deep d) d (flag false more) ts)
assign_reads a ts ts1 rest d stack more h is k =
    assignment_reads a ts ts1 d (is_deep d) (expected.Statement d ∷ stack) (AfterName d ∷ stack) (One marks.Semicolon ∷ stack) (flag false more)
    (record { name = refl; more = refl; less = refl; subscript = λ us past z. assigns us d stack 0 past z; shut = λ n. refl })
    h (λ m. goes kinds.Semicolon ts1 rest (Tail d ∷ Anew ∷ One marks.Semicolon ∷ stack) stack m 0 false more is refl k)
    (goes kinds.Semicolon ts1 rest (One marks.Semicolon ∷ stack) stack 0 0 false more is refl k)

local_initializer_reads : (v : LocalInitializer) (ts rest : List Token) (d : ℕ) (stack : List Symbol) (more : Flags) → SpellsLocalInitializer v ts rest → trace rest (Locals d ∷ stack) 0 ≡ Some (more rest) → trace ts (LocalInitial d ∷ Locals d ∷ stack) 0 ≡ Some (excess_local_initializer v d more ts)
local_initializer_reads trees.Absent ts rest d stack more h k = no_source ts d stack 0 (more ts) (nothing ts rest (Locals d ∷ stack) more h k)
local_initializer_reads (LocalInitializer.Value e) ts rest d stack more h k =
    goes kinds.Assign ts h.0 (LocalInitial d ∷ Locals d ∷ stack) (Source d ∷ Locals d ∷ stack) 0 0 false (excess e d 0 more) h.1 refl
    (takes_value h.0 d (Locals d ∷ stack) 0 (excess e d 0 more h.0) (λ n. refl)
    (whole_reads e h.0 rest d (Locals d ∷ stack) more h.2 (λ n. refl) (λ m. ends_local rest d stack m (more rest) k)))
local_initializer_reads (LocalInitializer.Invoke how c) ts rest d stack more h k =
    goes kinds.Assign ts h.0 (LocalInitial d ∷ Locals d ∷ stack) (Source d ∷ Locals d ∷ stack) 0 0 false (excess_invoked how c d more) h.1 refl
    (invoked_reads how c h.0 rest d (Locals d ∷ stack) more h.2 k)

local_reads : (l : Local) (ts rest : List Token) (d : ℕ) (stack : List Symbol) (more : Flags) → SpellsLocal l ts rest → trace rest (Locals d ∷ stack) 0 ≡ Some (more rest) → trace ts (Named ∷ LocalInitial d ∷ Locals d ∷ stack) 0 ≡ Some (flag false (excess_local_initializer l.initializer d more) ts)
unfolding SpellsLocal
local_reads l ts rest d stack more h k =
    goes kinds.Name ts h.0 (Named ∷ LocalInitial d ∷ Locals d ∷ stack) (LocalInitial d ∷ Locals d ∷ stack) 0 0 false (excess_local_initializer l.initializer d more) (named l.name ts h.0 h.1) refl
    (local_initializer_reads l.initializer h.0 rest d stack more h.2 k)

more_locals_read : (list : List Local) (ts rest : List Token) (d : ℕ) (stack : List Symbol) (more : Flags) → SpellsMoreLocals list ts rest → trace rest (Locals d ∷ stack) 0 ≡ Some (more rest) → trace ts (Locals d ∷ stack) 0 ≡ Some (excess_locals list d more ts)
more_locals_read [] ts rest d stack more h k = nothing ts rest (Locals d ∷ stack) more h k
more_locals_read (l ∷ list) ts rest d stack more h k =
    goes kinds.Comma ts h.0 (Locals d ∷ stack) (Named ∷ LocalInitial d ∷ Locals d ∷ stack) 0 0 false (flag false (excess_local_initializer l.initializer d (excess_locals list d more))) h.2 refl
    (local_reads l h.0 h.1 d stack (excess_locals list d more) h.3 (more_locals_read list h.1 rest d stack more h.4 k))

locals_read : (list : List Local) (ts rest : List Token) (d : ℕ) (stack : List Symbol) (more : Flags) → SpellsLocals list ts rest → trace rest (Locals d ∷ stack) 0 ≡ Some (more rest) → trace ts (Named ∷ LocalInitial d ∷ Locals d ∷ stack) 0 ≡ Some (excess_declaration list d more ts)
locals_read [] ts rest d stack more h k = absurd h
locals_read (l ∷ list) ts rest d stack more h k =
    local_reads l ts h.0 d stack (excess_locals list d more) h.1 (more_locals_read list h.0 rest d stack more h.2 k)

local_line_reads : (list : List Local) (ts rest : List Token) (d : ℕ) (stack : List Symbol) (more : Flags) → SpellsLocalLine list ts rest → trace rest stack 0 ≡ Some (more rest) → trace ts (Declaration d ∷ stack) 0 ≡ Some (excess_declaration list d (flag false more) ts)
unfolding SpellsLocalLine
local_line_reads list ts rest d stack more h k =
    declares_locals ts d stack 0 (excess_declaration list d (flag false more) ts)
    (locals_read list ts h.0 d stack (flag false more) h.1 (goes kinds.Semicolon h.0 rest (Locals d ∷ stack) stack 0 0 false more h.2 refl k))

reducer_reads : (r : reducers.Reducer) (ts rest : List Token) (front stack : List Symbol) (more : Flags) → SpellsReducer r ts rest → after front 0 kinds.CilkReducer ≡ Goes false (One marks.Open ∷ Named ∷ One marks.Close ∷ Named ∷ stack) 0 → trace rest stack 0 ≡ Some (more rest) → trace ts front 0 ≡ Some (excess_reducer more ts)
unfolding SpellsReducer
reducer_reads r ts rest front stack more h e k =
    goes kinds.CilkReducer ts h.0 front (One marks.Open ∷ Named ∷ One marks.Close ∷ Named ∷ stack) 0 0 false (flag false (flag false (flag false (flag false more)))) h.4 e
    (goes kinds.Open h.0 h.1 (One marks.Open ∷ Named ∷ One marks.Close ∷ Named ∷ stack) (Named ∷ One marks.Close ∷ Named ∷ stack) 0 0 false (flag false (flag false (flag false more))) h.5 refl
    (goes kinds.Name h.1 h.2 (Named ∷ One marks.Close ∷ Named ∷ stack) (One marks.Close ∷ Named ∷ stack) 0 0 false (flag false (flag false more)) (named r.monoid h.1 h.2 h.6) refl
    (goes kinds.Close h.2 h.3 (One marks.Close ∷ Named ∷ stack) (Named ∷ stack) 0 0 false (flag false more) h.7 refl
    (goes kinds.Name h.3 rest (Named ∷ stack) stack 0 0 false more (named r.name h.3 rest h.8) refl k))))

defined_reads : (name : Name) (e : Expression) (ts rest : List Token) (d : ℕ) (stack : List Symbol) (more : Flags) → SpellsDefined name e ts rest → trace rest stack 0 ≡ Some (more rest) → trace ts (Named ∷ One marks.Assign ∷ Operand d ∷ Tail d ∷ Anew ∷ One marks.Semicolon ∷ stack) 0 ≡ Some (flag false (flag false (excess e d 0 (flag false more))) ts)
unfolding SpellsDefined
defined_reads name e ts rest d stack more h k =
    goes kinds.Name ts h.0 (Named ∷ One marks.Assign ∷ Operand d ∷ Tail d ∷ Anew ∷ One marks.Semicolon ∷ stack) (One marks.Assign ∷ Operand d ∷ Tail d ∷ Anew ∷ One marks.Semicolon ∷ stack) 0 0 false (flag false (excess e d 0 (flag false more))) (named name ts h.0 h.2) refl
    (goes kinds.Assign h.0 h.1 (One marks.Assign ∷ Operand d ∷ Tail d ∷ Anew ∷ One marks.Semicolon ∷ stack) (Operand d ∷ Tail d ∷ Anew ∷ One marks.Semicolon ∷ stack) 0 0 false (excess e d 0 (flag false more)) h.3 refl
    (ended_reads e h.1 h.4.0 rest d stack more h.4.1 h.4.2 k))

tested_reads : (name : Name) (e : Expression) (ts rest : List Token) (d : ℕ) (stack : List Symbol) (more : Flags) → SpellsTested name e ts rest → trace rest stack 0 ≡ Some (more rest) → trace ts (Named ∷ One marks.Less ∷ Operand d ∷ Tail d ∷ Anew ∷ One marks.Semicolon ∷ stack) 0 ≡ Some (flag false (flag false (excess e d 0 (flag false more))) ts)
unfolding SpellsTested
tested_reads name e ts rest d stack more h k =
    goes kinds.Name ts h.0 (Named ∷ One marks.Less ∷ Operand d ∷ Tail d ∷ Anew ∷ One marks.Semicolon ∷ stack) (One marks.Less ∷ Operand d ∷ Tail d ∷ Anew ∷ One marks.Semicolon ∷ stack) 0 0 false (flag false (excess e d 0 (flag false more))) (named name ts h.0 h.2) refl
    (goes kinds.Less h.0 h.1 (One marks.Less ∷ Operand d ∷ Tail d ∷ Anew ∷ One marks.Semicolon ∷ stack) (Operand d ∷ Tail d ∷ Anew ∷ One marks.Semicolon ∷ stack) 0 0 false (excess e d 0 (flag false more)) h.3 refl
    (ended_reads e h.1 h.4.0 rest d stack more h.4.1 h.4.2 k))

-- the rest of a step, after a name or an increment
abbrev after_step : Flags → Flags
after_step more = where_next is_sum (flag false (flag false more)) (flag false more)

unit_reads : (ts rest : List Token) (stack : List Symbol) (more : Flags) → SpellsUnit ts rest → trace rest stack 0 ≡ Some (more rest) → trace ts (UnitStepRest ∷ stack) 0 ≡ Some (after_step more ts)
unit_reads ts rest stack more (inl h) k =
    goes kinds.Increment ts rest (UnitStepRest ∷ stack) stack 0 0 false more h refl k
    ∙ ap Some (sym (where_isnt is_sum (flag false (flag false more)) (flag false more) kinds.Increment ts rest h refl))
unit_reads ts rest stack more (inr h) k =
    goes kinds.PlusAssign ts h.0 (UnitStepRest ∷ stack) (Single ∷ stack) 0 0 false (flag false more) h.1 refl
    (goes (kinds.Number (pos 1)) h.0 rest (Single ∷ stack) stack 0 0 false more h.2 refl k)
    ∙ ap Some (sym (where_is is_sum (flag false (flag false more)) (flag false more) kinds.PlusAssign ts h.0 h.1 refl))

unit_step_reads : (name : Name) (ts rest : List Token) (stack : List Symbol) (more : Flags) → SpellsUnitStep name ts rest → trace rest stack 0 ≡ Some (more rest) → trace ts (UnitStep ∷ stack) 0 ≡ Some (excess_unit_step more ts)
unfolding SpellsUnitStep
unit_step_reads name ts rest stack more (inl h) k =
    goes kinds.Increment ts h.0 (UnitStep ∷ stack) (Named ∷ stack) 0 0 false (after_step more) h.1 refl
    (goes kinds.Name h.0 rest (Named ∷ stack) stack 0 0 false more (named name h.0 rest h.2) refl k
    ∙ ap Some (sym (where_isnt is_sum (flag false (flag false more)) (flag false more) kinds.Name h.0 rest (named name h.0 rest h.2) refl)))
unit_step_reads name ts rest stack more (inr h) k =
    goes kinds.Name ts h.0 (UnitStep ∷ stack) (UnitStepRest ∷ stack) 0 0 false (after_step more) (named name ts h.0 h.1) refl (unit_reads h.0 rest stack more h.2 k)

-- the last part of the head of a `cilk_for`
abbrev head_end : ℕ → List Symbol → List Symbol
head_end d stack = Named ∷ One marks.Less ∷ Operand d ∷ Tail d ∷ Anew ∷ One marks.Semicolon ∷ UnitStep ∷ One marks.Close ∷ stack

abbrev head_begin : ℕ → List Symbol → List Symbol
head_begin d stack = Named ∷ One marks.Assign ∷ Operand d ∷ Tail d ∷ Anew ∷ One marks.Semicolon ∷ head_end d stack

bounds_read : (b : trees.Bounds) (ts rest : List Token) (d : ℕ) (stack : List Symbol) (more : Flags) → SpellsBounds b ts rest → trace rest stack 0 ≡ Some (more rest) → trace ts (One marks.Open ∷ One marks.Int ∷ head_begin d stack) 0 ≡ Some (excess_bounds b d more ts)
unfolding SpellsBounds
bounds_read b ts rest d stack more h k =
    let last : Flags = excess_unit_step (flag false more) in
    let second : Flags = flag false (flag false (excess b.high d 0 (flag false last))) in
    let first : Flags = flag false (flag false (excess b.low d 0 (flag false second))) in
    goes kinds.Open ts h.0 (One marks.Open ∷ One marks.Int ∷ head_begin d stack) (One marks.Int ∷ head_begin d stack) 0 0 false (flag false first) h.5 refl
    (goes kinds.Int h.0 h.1 (One marks.Int ∷ head_begin d stack) (head_begin d stack) 0 0 false first h.6 refl
    (defined_reads b.variable b.low h.1 h.2 d (head_end d stack) second h.7
    (tested_reads b.tested b.high h.2 h.3 d (UnitStep ∷ One marks.Close ∷ stack) last h.8
    (unit_step_reads b.stepped h.3 h.4 (One marks.Close ∷ stack) (flag false more) h.9
    (goes kinds.Close h.4 rest (One marks.Close ∷ stack) stack 0 0 false more h.10 refl k)))))

beginning_reads : (b : Option trees.Beginning) (ts rest : List Token) (d : ℕ) (stack : List Symbol) (more : Flags) → SpellsBeginning b ts rest → trace rest stack 0 ≡ Some (more rest) → trace ts (expected.Beginning d ∷ stack) 0 ≡ Some (excess_beginning b d more ts)
unfolding SpellsBeginning
beginning_reads None ts rest d stack more h k = goes kinds.Semicolon ts rest (expected.Beginning d ∷ stack) stack 0 0 false more h refl k
beginning_reads (Some (trees.Declares name e)) ts rest d stack more h k =
    goes kinds.Int ts h.0 (expected.Beginning d ∷ stack) (Named ∷ One marks.Assign ∷ Operand d ∷ Tail d ∷ Anew ∷ One marks.Semicolon ∷ stack) 0 0 false (flag false (flag false (excess e d 0 (flag false more)))) h.1 refl
    (defined_reads name e h.0 rest d stack more h.2 k)
beginning_reads (Some (trees.Assigns a)) ts rest d stack more h k =
    begins_assigning ts d stack 0 (excess_assignment a false d (flag false more) ts)
    (assignment_reads a ts h.0 d false (expected.Assignment d ∷ One marks.Semicolon ∷ stack) (Subscript d ∷ Operation d ∷ One marks.Semicolon ∷ stack) (One marks.Semicolon ∷ stack) (flag false more)
    (record { name = refl; more = refl; less = refl; subscript = λ us past z. z; shut = λ n. refl })
    h.1 (λ m. goes kinds.Semicolon h.0 rest (Tail d ∷ Anew ∷ One marks.Semicolon ∷ stack) stack m 0 false more h.2 refl k)
    (goes kinds.Semicolon h.0 rest (One marks.Semicolon ∷ stack) stack 0 0 false more h.2 refl k))

step_reads : (a : Option trees.Assignment) (ts rest : List Token) (d : ℕ) (stack : List Symbol) (more : Flags) → SpellsStep a ts rest → trace rest stack 0 ≡ Some (more rest) → trace ts (Step d ∷ stack) 0 ≡ Some (excess_step a d more ts)
unfolding SpellsStep
step_reads None ts rest d stack more h k = goes kinds.Close ts rest (Step d ∷ stack) stack 0 0 false more h refl k
step_reads (Some a) ts rest d stack more h k =
    steps_assigning ts d stack 0 (excess_assignment a false d (flag false more) ts)
    (assignment_reads a ts h.0 d false (expected.Assignment d ∷ One marks.Close ∷ stack) (Subscript d ∷ Operation d ∷ One marks.Close ∷ stack) (One marks.Close ∷ stack) (flag false more)
    (record { name = refl; more = refl; less = refl; subscript = λ us past z. z; shut = λ n. refl })
    h.1 (λ m. goes kinds.Close h.0 rest (Tail d ∷ Anew ∷ One marks.Close ∷ stack) stack m 0 false more h.2 refl k)
    (goes kinds.Close h.0 rest (One marks.Close ∷ stack) stack 0 0 false more h.2 refl k))

head_reads : (b : Option trees.Beginning) (e : Option Expression) (a : Option trees.Assignment) (ts rest : List Token) (d : ℕ) (stack : List Symbol) (more : Flags) → SpellsHead b e a ts rest → trace rest stack 0 ≡ Some (more rest) → trace ts (One marks.Open ∷ expected.Beginning d ∷ Optional d ∷ Step d ∷ stack) 0 ≡ Some (flag false (excess_beginning b d (excess_optional e d (excess_step a d more))) ts)
unfolding SpellsHead
head_reads b e a ts rest d stack more h k =
    goes kinds.Open ts h.0 (One marks.Open ∷ expected.Beginning d ∷ Optional d ∷ Step d ∷ stack) (expected.Beginning d ∷ Optional d ∷ Step d ∷ stack) 0 0 false (excess_beginning b d (excess_optional e d (excess_step a d more))) h.3 refl
    (beginning_reads b h.0 h.1 d (Optional d ∷ Step d ∷ stack) (excess_optional e d (excess_step a d more)) h.4
    (optional_reads e h.1 h.2 d (Step d ∷ stack) (excess_step a d more) h.5
    (step_reads a h.2 rest d stack more h.6 k)))

update_reads : (name : Name) (e : Expression) (ts rest : List Token) (d : ℕ) (stack : List Symbol) (more : Flags) → SpellsUpdate name e ts rest → trace rest stack 0 ≡ Some (more rest) → trace ts (One marks.Open ∷ Named ∷ One marks.Comma ∷ Operand d ∷ Tail d ∷ Anew ∷ One marks.Close ∷ One marks.Semicolon ∷ stack) 0 ≡ Some (excess_update e d more ts)
unfolding SpellsUpdate
update_reads name e ts rest d stack more h k =
    let value : Flags = excess e d 0 (flag false (flag false more)) in
    goes kinds.Open ts h.0 (One marks.Open ∷ Named ∷ One marks.Comma ∷ Operand d ∷ Tail d ∷ Anew ∷ One marks.Close ∷ One marks.Semicolon ∷ stack) (Named ∷ One marks.Comma ∷ Operand d ∷ Tail d ∷ Anew ∷ One marks.Close ∷ One marks.Semicolon ∷ stack) 0 0 false (flag false (flag false value)) h.5 refl
    (goes kinds.Name h.0 h.1 (Named ∷ One marks.Comma ∷ Operand d ∷ Tail d ∷ Anew ∷ One marks.Close ∷ One marks.Semicolon ∷ stack) (One marks.Comma ∷ Operand d ∷ Tail d ∷ Anew ∷ One marks.Close ∷ One marks.Semicolon ∷ stack) 0 0 false (flag false value) (named name h.0 h.1 h.6) refl
    (goes kinds.Comma h.1 h.2 (One marks.Comma ∷ Operand d ∷ Tail d ∷ Anew ∷ One marks.Close ∷ One marks.Semicolon ∷ stack) (Operand d ∷ Tail d ∷ Anew ∷ One marks.Close ∷ One marks.Semicolon ∷ stack) 0 0 false value h.7 refl
    (closed_reads e h.2 h.3 h.4 d (One marks.Semicolon ∷ stack) (flag false more) h.8 h.9
    (goes kinds.Semicolon h.4 rest (One marks.Semicolon ∷ stack) stack 0 0 false more h.10 refl k))))

abbrev StmtReads : Statement → Type 0
StmtReads s = (ts rest : List Token) (d : ℕ) (stack : List Symbol) (more : Flags) → SpellsStmt s ts rest → trace rest stack 0 ≡ Some (more rest) → trace ts (expected.Statement d ∷ stack) 0 ≡ Some (excess_stmt s d more ts)

abbrev AllReads : Statements → Type 0
AllReads row = (ts rest : List Token) (d : ℕ) (stack : List Symbol) (more : Flags) → SpellsAll row ts rest → trace rest (expected.Statements d ∷ stack) 0 ≡ Some (more rest) → trace ts (expected.Statements d ∷ stack) 0 ≡ Some (excess_all row d more ts)

mutual
  stmt_reads : (s : Statement) → StmtReads s
  stmt_reads trees.Empty ts rest d stack more h k = goes kinds.Semicolon ts rest (expected.Statement d ∷ stack) stack 0 0 (is_deep d) more h refl k
  stmt_reads (trees.Block row) ts rest d stack more h k =
      goes kinds.OpenBrace ts h.0 (expected.Statement d ∷ stack) (expected.Statements (d + 1) ∷ One marks.CloseBrace ∷ stack) 0 0 (is_deep d) (excess_all row (d + 1) (flag false more)) h.2 refl
      (all_reads row h.0 h.1 (d + 1) (One marks.CloseBrace ∷ stack) (flag false more) h.3
      (goes kinds.CloseBrace h.1 rest (expected.Statements (d + 1) ∷ One marks.CloseBrace ∷ stack) stack 0 0 false more h.4 refl k))
  stmt_reads (trees.Declare list) ts rest d stack more h k =
      goes kinds.Int ts h.0 (expected.Statement d ∷ stack) (Declaration d ∷ stack) 0 0 (is_deep d) (excess_declaration list d (flag false more)) h.1 refl
      (local_line_reads list h.0 rest d stack more h.2 k)
  stmt_reads (Statement.Reducer r) ts rest d stack more h k =
      goes kinds.Int ts h.0 (expected.Statement d ∷ stack) (Declaration d ∷ stack) 0 0 (is_deep d) (excess_reducer (flag false more)) h.2 refl
      (reducer_reads r h.0 h.1 (Declaration d ∷ stack) (One marks.Semicolon ∷ stack) (flag false more) h.3 refl
      (goes kinds.Semicolon h.1 rest (One marks.Semicolon ∷ stack) stack 0 0 false more h.4 refl k))
  stmt_reads (trees.Assign a) ts rest d stack more h k = assign_reads a ts h.0 rest d stack more h.1 h.2 k
  stmt_reads (Statement.Invoke how c) ts rest d stack more h k = call_reads how c ts h.0 rest d stack more h.1 h.2 k
  stmt_reads (trees.AssignCall name how c) ts rest d stack more h k =
      goes kinds.Name ts h.0 (expected.Statement d ∷ stack) (AfterName d ∷ stack) 0 0 (is_deep d) (flag false (excess_invoked how c d (flag false more))) (named name ts h.0 h.3) refl
      (goes kinds.Assign h.0 h.1 (AfterName d ∷ stack) (Source d ∷ One marks.Semicolon ∷ stack) 0 0 false (excess_invoked how c d (flag false more)) h.4 refl
      (invoked_reads how c h.1 h.2 d (One marks.Semicolon ∷ stack) (flag false more) h.5
      (goes kinds.Semicolon h.2 rest (One marks.Semicolon ∷ stack) stack 0 0 false more h.6 refl k)))
  stmt_reads trees.Sync ts rest d stack more h k =
      goes kinds.CilkSync ts h.0 (expected.Statement d ∷ stack) (One marks.Semicolon ∷ stack) 0 0 (is_deep d) (flag false more) h.1 refl
      (goes kinds.Semicolon h.0 rest (One marks.Semicolon ∷ stack) stack 0 0 false more h.2 refl k)
  stmt_reads (trees.If e s) ts rest d stack more h k =
      goes kinds.If ts h.0 (expected.Statement d ∷ stack) (One marks.Open ∷ Operand d ∷ Tail d ∷ Anew ∷ One marks.Close ∷ expected.Statement (d + 1) ∷ ElsePart (d + 1) ∷ stack) 0 0 (is_deep d) (excess_inside e d (excess_stmt s (d + 1) more)) h.2 refl
      (inside_reads e h.0 h.1 d (expected.Statement (d + 1) ∷ ElsePart (d + 1) ∷ stack) (excess_stmt s (d + 1) more) h.3
      (stmt_reads s h.1 rest (d + 1) (ElsePart (d + 1) ∷ stack) more h.4 (no_else rest (d + 1) stack 0 h.5 ∙ k)))
  stmt_reads (trees.IfElse e s other) ts rest d stack more h k =
      let second : Flags = flag false (excess_stmt other (d + 1) more) in
      goes kinds.If ts h.0 (expected.Statement d ∷ stack) (One marks.Open ∷ Operand d ∷ Tail d ∷ Anew ∷ One marks.Close ∷ expected.Statement (d + 1) ∷ ElsePart (d + 1) ∷ stack) 0 0 (is_deep d) (excess_inside e d (excess_stmt s (d + 1) second)) h.4 refl
      (inside_reads e h.0 h.1 d (expected.Statement (d + 1) ∷ ElsePart (d + 1) ∷ stack) (excess_stmt s (d + 1) second) h.5
      (stmt_reads s h.1 h.2 (d + 1) (ElsePart (d + 1) ∷ stack) second h.6
      (goes kinds.Else h.2 h.3 (ElsePart (d + 1) ∷ stack) (expected.Statement (d + 1) ∷ stack) 0 0 false (excess_stmt other (d + 1) more) h.7 refl
      (stmt_reads other h.3 rest (d + 1) stack more h.8 k))))
  stmt_reads (trees.While e s) ts rest d stack more h k =
      goes kinds.While ts h.0 (expected.Statement d ∷ stack) (One marks.Open ∷ Operand d ∷ Tail d ∷ Anew ∷ One marks.Close ∷ expected.Statement (d + 1) ∷ stack) 0 0 (is_deep d) (excess_inside e d (excess_stmt s (d + 1) more)) h.2 refl
      (inside_reads e h.0 h.1 d (expected.Statement (d + 1) ∷ stack) (excess_stmt s (d + 1) more) h.3 (stmt_reads s h.1 rest (d + 1) stack more h.4 k))
  stmt_reads (trees.For b e a s) ts rest d stack more h k =
      goes kinds.For ts h.0 (expected.Statement d ∷ stack) (One marks.Open ∷ expected.Beginning d ∷ Optional d ∷ Step d ∷ expected.Statement (d + 1) ∷ stack) 0 0 (is_deep d) (flag false (excess_beginning b d (excess_optional e d (excess_step a d (excess_stmt s (d + 1) more))))) h.2 refl
      (head_reads b e a h.0 h.1 d (expected.Statement (d + 1) ∷ stack) (excess_stmt s (d + 1) more) h.3 (stmt_reads s h.1 rest (d + 1) stack more h.4 k))
  stmt_reads (trees.ParallelFor b s) ts rest d stack more h k =
      goes kinds.CilkFor ts h.0 (expected.Statement d ∷ stack) (One marks.Open ∷ One marks.Int ∷ head_begin d (expected.Statement (d + 1) ∷ stack)) 0 0 (is_deep d) (excess_bounds b d (excess_stmt s (d + 1) more)) h.2 refl
      (bounds_read b h.0 h.1 d (expected.Statement (d + 1) ∷ stack) (excess_stmt s (d + 1) more) h.3 (stmt_reads s h.1 rest (d + 1) stack more h.4 k))
  stmt_reads (trees.Return at v) ts rest d stack more h k =
      goes kinds.Return ts h.0 (expected.Statement d ∷ stack) (Optional d ∷ stack) 0 0 (is_deep d) (excess_optional v d more) (h.1.0, h.1.1, h.1.2) refl
      (optional_reads v h.0 rest d stack more h.2 k)
  stmt_reads (trees.Print e) ts rest d stack more h k =
      goes kinds.Print ts h.0 (expected.Statement d ∷ stack) (One marks.Open ∷ Operand d ∷ Tail d ∷ Anew ∷ One marks.Close ∷ One marks.Semicolon ∷ stack) 0 0 (is_deep d) (excess_inside e d (flag false more)) h.2 refl
      (inside_reads e h.0 h.1 d (One marks.Semicolon ∷ stack) (flag false more) h.3
      (goes kinds.Semicolon h.1 rest (One marks.Semicolon ∷ stack) stack 0 0 false more h.4 refl k))
  stmt_reads (trees.Update name e) ts rest d stack more h k =
      goes kinds.Update ts h.0 (expected.Statement d ∷ stack) (One marks.Open ∷ Named ∷ One marks.Comma ∷ Operand d ∷ Tail d ∷ Anew ∷ One marks.Close ∷ One marks.Semicolon ∷ stack) 0 0 (is_deep d) (excess_update e d more) h.1 refl
      (update_reads name e h.0 rest d stack more h.2 k)
  stmt_reads (Statement.Set name e) ts rest d stack more h k =
      goes kinds.Set ts h.0 (expected.Statement d ∷ stack) (One marks.Open ∷ Named ∷ One marks.Comma ∷ Operand d ∷ Tail d ∷ Anew ∷ One marks.Close ∷ One marks.Semicolon ∷ stack) 0 0 (is_deep d) (excess_update e d more) h.1 refl
      (update_reads name e h.0 rest d stack more h.2 k)

  all_reads : (row : Statements) → AllReads row
  all_reads End ts rest d stack more h k = nothing ts rest (expected.Statements d ∷ stack) more h k
  all_reads (Then s row) ts rest d stack more h k =
      repeats ts d stack 0 (excess_all (Then s row) d more ts) (stmt_reads s ts h.0 d (expected.Statements d ∷ stack) (excess_all row d more) h.1 (all_reads row h.0 rest d stack more h.2 k))

literal_reads : (i : Initializer) (ts ts1 rest : List Token) (stack : List Symbol) (more : Flags) → Is kinds.Assign ts ts1 → SpellsLiteral i ts1 rest → trace rest (Variables ∷ stack) 0 ≡ Some (more rest) → trace ts (Initial ∷ Variables ∷ stack) 0 ≡ Some (excess_initializer i more ts)
literal_reads initializers.Absent ts ts1 rest stack more a h k = absurd h
literal_reads (initializers.Number v) ts ts1 rest stack more a h k =
    goes kinds.Assign ts ts1 (Initial ∷ Variables ∷ stack) (Literal ∷ Variables ∷ stack) 0 0 false (flag false more) a refl
    (goes (kinds.Number v) ts1 rest (Literal ∷ Variables ∷ stack) (Variables ∷ stack) 0 0 false more h refl k)
literal_reads (initializers.Negative v) ts ts1 rest stack more a h k =
    goes kinds.Assign ts ts1 (Initial ∷ Variables ∷ stack) (Literal ∷ Variables ∷ stack) 0 0 false (flag false (flag false more)) a refl
    (goes kinds.Minus ts1 h.0 (Literal ∷ Variables ∷ stack) (Numeral ∷ Variables ∷ stack) 0 0 false (flag false more) h.1 refl
    (goes (kinds.Number v) h.0 rest (Numeral ∷ Variables ∷ stack) (Variables ∷ stack) 0 0 false more h.2 refl k))

initializer_reads : (i : Initializer) (ts rest : List Token) (stack : List Symbol) (more : Flags) → SpellsInitializer i ts rest → trace rest (Variables ∷ stack) 0 ≡ Some (more rest) → trace ts (Initial ∷ Variables ∷ stack) 0 ≡ Some (excess_initializer i more ts)
initializer_reads initializers.Absent ts rest stack more h k = absent ts stack 0 (more ts) (nothing ts rest (Variables ∷ stack) more h k)
initializer_reads (initializers.Number v) ts rest stack more h k = literal_reads (initializers.Number v) ts h.0 rest stack more h.1 h.2 k
initializer_reads (initializers.Negative v) ts rest stack more h k = literal_reads (initializers.Negative v) ts h.0 rest stack more h.1 h.2 k

global_reads : (v : GlobalVariable) (name : Name) (ts rest : List Token) (stack : List Symbol) (more : Flags) → SpellsGlobal v name ts rest → trace rest (Variables ∷ stack) 0 ≡ Some (more rest) → trace ts (Initial ∷ Variables ∷ stack) 0 ≡ Some (excess_global v more ts)
global_reads (globals.Variable own i) name ts rest stack more h k = initializer_reads i ts rest stack more h.1 k
global_reads (globals.Array own v) name ts rest stack more h k =
    goes kinds.OpenBracket ts h.0 (Initial ∷ Variables ∷ stack) (Numeral ∷ One marks.CloseBracket ∷ Variables ∷ stack) 0 0 false (flag false (flag false more)) h.3 refl
    (goes (kinds.Number v) h.0 h.1 (Numeral ∷ One marks.CloseBracket ∷ Variables ∷ stack) (One marks.CloseBracket ∷ Variables ∷ stack) 0 0 false (flag false more) h.4 refl
    (goes kinds.CloseBracket h.1 rest (One marks.CloseBracket ∷ Variables ∷ stack) (Variables ∷ stack) 0 0 false more h.5 refl k))

more_reads : (list : List GlobalVariable) (ts rest : List Token) (stack : List Symbol) (more : Flags) → SpellsMore list ts rest → trace rest (Variables ∷ stack) 0 ≡ Some (more rest) → trace ts (Variables ∷ stack) 0 ≡ Some (excess_more list more ts)
more_reads [] ts rest stack more h k = nothing ts rest (Variables ∷ stack) more h k
more_reads (v ∷ list) ts rest stack more h k =
    goes kinds.Comma ts h.1 (Variables ∷ stack) (Named ∷ Initial ∷ Variables ∷ stack) 0 0 false (flag false (excess_global v (excess_more list more))) h.4 refl
    (goes kinds.Name h.1 h.2 (Named ∷ Initial ∷ Variables ∷ stack) (Initial ∷ Variables ∷ stack) 0 0 false (excess_global v (excess_more list more)) (named h.0 h.1 h.2 h.5) refl
    (global_reads v h.0 h.2 h.3 stack (excess_more list more) h.6 (more_reads list h.3 rest stack more h.7 k)))

variables_read : (name : Name) (list : List GlobalVariable) (ts rest : List Token) (stack : List Symbol) (more : Flags) → SpellsVariables name list ts rest → trace rest (Variables ∷ stack) 0 ≡ Some (more rest) → trace ts (Initial ∷ Variables ∷ stack) 0 ≡ Some (excess_variables list more ts)
variables_read name [] ts rest stack more h k = absurd h
variables_read name (v ∷ list) ts rest stack more h k =
    global_reads v name ts h.0 stack (excess_more list more) h.1 (more_reads list h.0 rest stack more h.2 k)

line_reads : (name : Name) (list : List GlobalVariable) (ts rest : List Token) (stack : List Symbol) (more : Flags) → SpellsLine name list ts rest → trace rest stack 0 ≡ Some (more rest) → trace ts (Declared ∷ stack) 0 ≡ Some (excess_variables list (flag false more) ts)
unfolding SpellsLine
line_reads name list ts rest stack more h k =
    declares ts stack 0 (excess_variables list (flag false more) ts)
    (variables_read name list ts h.0 stack (flag false more) h.1 (goes kinds.Semicolon h.0 rest (Variables ∷ stack) stack 0 0 false more h.2 refl k))

parameter_reads : (p : declared_parameters.Parameter) (ts rest : List Token) (stack : List Symbol) (more : Flags) → SpellsParameter p ts rest → trace rest stack 0 ≡ Some (more rest) → trace ts (expected.Parameter ∷ stack) 0 ≡ Some (excess_parameter p more ts)
parameter_reads (parameters.Variable name) ts rest stack more h k = goes kinds.Name ts rest (expected.Parameter ∷ stack) stack 0 0 false more (named name ts rest h) refl k
parameter_reads (parameters.Reducer r) ts rest stack more h k = reducer_reads r ts rest (expected.Parameter ∷ stack) stack more h refl k

more_parameters_read : (list : List declared_parameters.Parameter) (ts rest : List Token) (stack : List Symbol) (more : Flags) → SpellsMoreParameters list ts rest → trace rest (MoreParameters ∷ stack) 0 ≡ Some (more rest) → trace ts (MoreParameters ∷ stack) 0 ≡ Some (excess_more_parameters list more ts)
more_parameters_read [] ts rest stack more h k = nothing ts rest (MoreParameters ∷ stack) more h k
more_parameters_read (p ∷ list) ts rest stack more h k =
    goes kinds.Comma ts h.0 (MoreParameters ∷ stack) (One marks.Int ∷ expected.Parameter ∷ MoreParameters ∷ stack) 0 0 false (flag false (excess_parameter p (excess_more_parameters list more))) h.3 refl
    (goes kinds.Int h.0 h.1 (One marks.Int ∷ expected.Parameter ∷ MoreParameters ∷ stack) (expected.Parameter ∷ MoreParameters ∷ stack) 0 0 false (excess_parameter p (excess_more_parameters list more)) h.4 refl
    (parameter_reads p h.1 h.2 (MoreParameters ∷ stack) (excess_more_parameters list more) h.5 (more_parameters_read list h.2 rest stack more h.6 k)))

parameters_read : (list : List declared_parameters.Parameter) (ts rest : List Token) (stack : List Symbol) (more : Flags) → SpellsParameters list ts rest → trace rest stack 0 ≡ Some (more rest) → trace ts (Parameters ∷ stack) 0 ≡ Some (excess_parameters list more ts)
parameters_read [] ts rest stack more (inl h) k =
    goes kinds.Close ts rest (Parameters ∷ stack) stack 0 0 false more h refl k
    ∙ ap Some (sym (where_isnt is_void (flag false (flag false more)) (flag false more) kinds.Close ts rest h refl))
parameters_read [] ts rest stack more (inr h) k =
    goes kinds.Void ts h.0 (Parameters ∷ stack) (One marks.Close ∷ stack) 0 0 false (flag false more) h.1 refl
    (goes kinds.Close h.0 rest (One marks.Close ∷ stack) stack 0 0 false more h.2 refl k)
    ∙ ap Some (sym (where_is is_void (flag false (flag false more)) (flag false more) kinds.Void ts h.0 h.1 refl))
parameters_read (p ∷ list) ts rest stack more h k =
    goes kinds.Int ts h.0 (Parameters ∷ stack) (expected.Parameter ∷ MoreParameters ∷ stack) 0 0 false (excess_parameter p (excess_more_parameters list (flag false more))) h.2 refl
    (parameter_reads p h.0 h.3.0 (MoreParameters ∷ stack) (excess_more_parameters list (flag false more)) h.3.1
    (more_parameters_read list h.3.0 h.1 stack (flag false more) h.3.2 (goes kinds.Close h.1 rest (MoreParameters ∷ stack) stack 0 0 false more h.4 refl k)))

body_reads : (row : Statements) (ts rest : List Token) (stack : List Symbol) (more : Flags) → SpellsBody row ts rest → trace rest stack 0 ≡ Some (more rest) → trace ts (One marks.OpenBrace ∷ expected.Statements 0 ∷ One marks.CloseBrace ∷ stack) 0 ≡ Some (flag false (excess_all row 0 (flag false more)) ts)
unfolding SpellsBody
body_reads row ts rest stack more h k =
    goes kinds.OpenBrace ts h.0 (One marks.OpenBrace ∷ expected.Statements 0 ∷ One marks.CloseBrace ∷ stack) (expected.Statements 0 ∷ One marks.CloseBrace ∷ stack) 0 0 false (excess_all row 0 (flag false more)) h.2 refl
    (all_reads row h.0 h.1 0 (One marks.CloseBrace ∷ stack) (flag false more) h.3
    (goes kinds.CloseBrace h.1 rest (expected.Statements 0 ∷ One marks.CloseBrace ∷ stack) stack 0 0 false more h.4 refl k))

function_reads : (list : List declared_parameters.Parameter) (row : Statements) (ts rest : List Token) (stack : List Symbol) (more : Flags) → SpellsFunction list row ts rest → trace rest stack 0 ≡ Some (more rest) → trace ts (Parameters ∷ One marks.OpenBrace ∷ expected.Statements 0 ∷ One marks.CloseBrace ∷ stack) 0 ≡ Some (excess_function list row more ts)
unfolding SpellsFunction
function_reads list row ts rest stack more h k =
    parameters_read list ts h.0 (One marks.OpenBrace ∷ expected.Statements 0 ∷ One marks.CloseBrace ∷ stack) (flag false (excess_all row 0 (flag false more))) h.1
    (body_reads row h.0 rest stack more h.2 k)

item_reads : (i : trees.Item) (ts rest : List Token) (stack : List Symbol) (more : Flags) → SpellsItem i ts rest → trace rest (Items ∷ stack) 0 ≡ Some (more rest) → trace ts (Items ∷ stack) 0 ≡ Some (excess_item i more ts)
item_reads (trees.Globals list) ts rest stack more h k =
    goes kinds.Int ts h.1 (Items ∷ stack) (Item ∷ Items ∷ stack) 0 0 false (flag false (excess_variables list (flag false more))) h.3 refl
    (goes kinds.Name h.1 h.2 (Item ∷ Items ∷ stack) (Declared ∷ Items ∷ stack) 0 0 false (excess_variables list (flag false more)) (named h.0 h.1 h.2 h.4) refl
    (line_reads h.0 list h.2 rest (Items ∷ stack) more h.5 k))
item_reads (trees.Item.Reducer r) ts rest stack more h k =
    goes kinds.Int ts h.0 (Items ∷ stack) (Item ∷ Items ∷ stack) 0 0 false (excess_reducer (flag false more)) h.2 refl
    (reducer_reads r h.0 h.1 (Item ∷ Items ∷ stack) (One marks.Semicolon ∷ Items ∷ stack) (flag false more) h.3 refl
    (goes kinds.Semicolon h.1 rest (One marks.Semicolon ∷ Items ∷ stack) (Items ∷ stack) 0 0 false more h.4 refl k))
item_reads (trees.Function types.Int name list row) ts rest stack more h k =
    goes kinds.Int ts h.0 (Items ∷ stack) (Item ∷ Items ∷ stack) 0 0 false (flag false (flag false (excess_function list row more))) h.3 refl
    (goes kinds.Name h.0 h.1 (Item ∷ Items ∷ stack) (Declared ∷ Items ∷ stack) 0 0 false (flag false (excess_function list row more)) (named name h.0 h.1 h.4) refl
    (goes kinds.Open h.1 h.2 (Declared ∷ Items ∷ stack) (Parameters ∷ One marks.OpenBrace ∷ expected.Statements 0 ∷ One marks.CloseBrace ∷ Items ∷ stack) 0 0 false (excess_function list row more) h.5 refl
    (function_reads list row h.2 rest (Items ∷ stack) more h.6 k)))
item_reads (trees.Function types.Void name list row) ts rest stack more h k =
    goes kinds.Void ts h.0 (Items ∷ stack) (Named ∷ One marks.Open ∷ Parameters ∷ One marks.OpenBrace ∷ expected.Statements 0 ∷ One marks.CloseBrace ∷ Items ∷ stack) 0 0 false (flag false (flag false (excess_function list row more))) h.3 refl
    (goes kinds.Name h.0 h.1 (Named ∷ One marks.Open ∷ Parameters ∷ One marks.OpenBrace ∷ expected.Statements 0 ∷ One marks.CloseBrace ∷ Items ∷ stack) (One marks.Open ∷ Parameters ∷ One marks.OpenBrace ∷ expected.Statements 0 ∷ One marks.CloseBrace ∷ Items ∷ stack) 0 0 false (flag false (excess_function list row more)) (named name h.0 h.1 h.4) refl
    (goes kinds.Open h.1 h.2 (One marks.Open ∷ Parameters ∷ One marks.OpenBrace ∷ expected.Statements 0 ∷ One marks.CloseBrace ∷ Items ∷ stack) (Parameters ∷ One marks.OpenBrace ∷ expected.Statements 0 ∷ One marks.CloseBrace ∷ Items ∷ stack) 0 0 false (excess_function list row more) h.5 refl
    (function_reads list row h.2 rest (Items ∷ stack) more h.6 k)))

-- the tokens of a program are read to their end
pub accepted : (list : List trees.Item) (ts : List Token) → SpellsItems list ts [] → trace ts (Items ∷ []) 0 ≡ Some (excess_items list ts)
accepted [] ts h = ap (λ x. trace x (Items ∷ []) 0) h
accepted (i ∷ list) ts h = item_reads i ts h.0 [] (excess_items list) h.1 (accepted list h.0 h.2)

-- Expected symbols can always be completed. The shortest tokens for each symbol do, if the list of
-- symbols is sound: after a symbol that may be empty there is no token that it would read.
use Rattle.std.proofs.Common.{◌≡◌, ℕ, pos, ◌+◌, Bool, true, false, cond, List, [], ◌∷◌, Option, Some, None, refl, sym, ap, ◌∙◌, subst}
use Rattle.std.specs.Ordering.{int_eq}
use Rattle.cilk_syntax.specs.declared.token.Kind.{Kind}
use Rattle.cilk_syntax.specs.declared.token.Kind.TheVariants as kinds
use Rattle.cilk_syntax.specs.declared.token.Token.{Token}
use Rattle.cilk_syntax.specs.declared.marks.Punct.TheVariants as marks
use Rattle.cilk_syntax.specs.Expected.{Symbol, One, Named, Numeral, Single, Operand, Index, Tail, Anew, Optional, Statement, Statements, ElsePart, AfterName, Assignment, Subscript, Operation, Source, SourceRest, Arguments, MoreArguments, Declaration, LocalInitial, Locals, Beginning, Step, UnitStep, UnitStepRest, Item, Declared, Literal, Initial, Variables, Parameters, Parameter, MoreParameters, Items, Passes, After, Goes, Fails, move_one, move_named, move_numeral, move_single, move_operand, move_index, move_tail, move_optional, move_statement, move_else, move_after_name, move_assignment, move_subscript, move_operation, move_source, move_source_rest, move_arguments, move_more_arguments, move_declaration, move_local_initial, move_locals, move_beginning, move_step, move_unit_step, move_unit_step_rest, move_item, move_declared, move_literal, move_initial, move_variables, move_parameters, move_parameter, move_more_parameters, move_items, kind_of, fits, level_of, begins_statement, followed, chosen, after}
use Rattle.cilk_syntax.specs.Limits.{is_deep}
use Rattle.cilk_syntax.proofs.Lists.{form_repeats}
use Rattle.cilk_syntax.proofs.MarkLaws.{fits_own}
use Rattle.cilk_parser.proofs.Traces.{trace, noted, ahead}

-- short tokens for a symbol
abbrev least : Symbol → List Kind
least (One mark) = kind_of mark ∷ []
least Named = kinds.Name ∷ []
least Numeral = kinds.Number (pos 0) ∷ []
least Single = kinds.Number (pos 1) ∷ []
least (Operand d) = kinds.Number (pos 0) ∷ []
least (Index d) = kinds.OpenBracket ∷ kinds.Number (pos 0) ∷ kinds.CloseBracket ∷ []
least (Tail d) = []
least Anew = []
least (Optional d) = kinds.Semicolon ∷ []
least (Statement d) = kinds.Semicolon ∷ []
least (Statements d) = []
least (ElsePart d) = kinds.Else ∷ kinds.Semicolon ∷ []
least (AfterName d) = kinds.Increment ∷ kinds.Semicolon ∷ []
least (Assignment d) = kinds.Name ∷ kinds.Increment ∷ []
least (Subscript d) = kinds.OpenBracket ∷ kinds.Number (pos 0) ∷ kinds.CloseBracket ∷ []
least (Operation d) = kinds.Increment ∷ []
least (Source d) = kinds.Name ∷ kinds.Open ∷ kinds.Close ∷ []
least (SourceRest d) = kinds.Open ∷ kinds.Close ∷ []
least (Arguments d) = kinds.Close ∷ []
least (MoreArguments d) = kinds.Close ∷ []
least (Declaration d) = kinds.Name ∷ kinds.Semicolon ∷ []
least (LocalInitial d) = kinds.Assign ∷ kinds.Name ∷ kinds.Open ∷ kinds.Close ∷ []
least (Locals d) = kinds.Semicolon ∷ []
least (Beginning d) = kinds.Semicolon ∷ []
least (Step d) = kinds.Close ∷ []
least UnitStep = kinds.Increment ∷ kinds.Name ∷ []
least UnitStepRest = kinds.Increment ∷ []
least Item = kinds.Name ∷ kinds.Semicolon ∷ []
least Declared = kinds.Semicolon ∷ []
least Literal = kinds.Number (pos 0) ∷ []
least Initial = kinds.Assign ∷ kinds.Number (pos 0) ∷ []
least Variables = kinds.Semicolon ∷ []
least Parameters = kinds.Close ∷ []
least Parameter = kinds.Name ∷ []
least MoreParameters = kinds.Close ∷ []
least Items = []

abbrev before : List Kind → List Token → List Token
before [] ts = ts
before (k ∷ ks) ts = record { kind = k; at = 0; end = 0 } ∷ before ks ts

abbrev pub finish : List Symbol → List Token
finish [] = []
finish (s ∷ stack) = before (least s) (finish stack)

abbrev first_kind : List Token → Option Kind
first_kind [] = None
first_kind (t ∷ ts) = Some t.kind

abbrev is_type : Kind → Bool
is_type kinds.Int = true
is_type kinds.Void = true
is_type _ = false

abbrev NoOperator : Option Kind → Type 0
NoOperator None = Unit {0}
NoOperator (Some k) = level_of k ≡ None

abbrev NoStatement : Option Kind → Type 0
NoStatement None = Unit {0}
NoStatement (Some k) = begins_statement k ≡ false

abbrev NoType : Option Kind → Type 0
NoType None = Unit {0}
NoType (Some k) = is_type k ≡ false

-- the tokens that may follow a symbol that ends with one that may be empty
abbrev Follows : Symbol → Option Kind → Type 0
Follows (Tail d) o = NoOperator o
Follows (Source d) o = NoOperator o
Follows (SourceRest d) o = NoOperator o
Follows (LocalInitial d) o = NoOperator o
Follows (Operation d) o = NoOperator o
Follows (Assignment d) o = NoOperator o
Follows (Statements d) o = NoStatement o
Follows Items o = NoType o
Follows _ o = Unit {0}

abbrev pub Sound : List Symbol → Type 0
Sound [] = Unit {0}
Sound (s ∷ stack) = Follows s (first_kind (finish stack)) × Sound stack

abbrev pub SoundAfter : After → Type 0
SoundAfter (Goes b stack n) = Sound stack
SoundAfter Fails = Unit {0}

kept_one : (t : Bool) (stack : List Symbol) (n : ℕ) (below : After) → Sound stack → SoundAfter (chosen (move_one t) stack n below)
kept_one true stack n below s = s
kept_one false stack n below s = tt

kept_single : (k : Kind) (stack : List Symbol) (n : ℕ) (below : After) → Sound stack → SoundAfter (chosen (move_single k) stack n below)
kept_single (kinds.Number v) stack n below s = kept_one (int_eq v (pos 1)) stack n below s
kept_single _ stack n below s = tt

kept_tail : (o : Option ℕ) (d : ℕ) (stack : List Symbol) (n : ℕ) (below : After) → Sound (Tail d ∷ stack) → SoundAfter below → SoundAfter (chosen (move_tail d o) stack n below)
kept_tail (Some l) d stack n below s b = (tt, s)
kept_tail None d stack n below s b = b

kept_named : (k : Kind) (stack : List Symbol) (n : ℕ) (below : After) → Sound stack → SoundAfter (chosen (move_named k) stack n below)
kept_named kinds.Name stack n below s = s
kept_named _ stack n below s = tt

kept_numeral : (k : Kind) (stack : List Symbol) (n : ℕ) (below : After) → Sound stack → SoundAfter (chosen (move_numeral k) stack n below)
kept_numeral (kinds.Number v) stack n below s = s
kept_numeral _ stack n below s = tt

kept_operand : (k : Kind) (d : ℕ) (stack : List Symbol) (n : ℕ) (below : After) → Sound stack → SoundAfter (chosen (move_operand d k) stack n below)
kept_operand (kinds.Number v) d stack n below s = s
kept_operand kinds.Name d stack n below s = (tt, s)
kept_operand kinds.Minus d stack n below s = (tt, s)
kept_operand kinds.Not d stack n below s = (tt, s)
kept_operand kinds.Open d stack n below s = (tt, (refl, (tt, s)))
kept_operand kinds.Value d stack n below s = (tt, (tt, (tt, s)))
kept_operand kinds.Input d stack n below s = (tt, (tt, (refl, (tt, s))))
kept_operand kinds.InputCount d stack n below s = (tt, (tt, s))
kept_operand _ d stack n below s = tt

kept_index : (k : Kind) (d : ℕ) (stack : List Symbol) (n : ℕ) (below : After) → Sound stack → SoundAfter below → SoundAfter (chosen (move_index d k) stack n below)
kept_index kinds.OpenBracket d stack n below s b = (tt, (refl, (tt, s)))
kept_index _ d stack n below s b = b

kept_statement : (k : Kind) (d : ℕ) (stack : List Symbol) (n : ℕ) (below : After) → Sound stack → SoundAfter (chosen (move_statement d k) stack n below)
kept_statement kinds.OpenBrace d stack n below s = (refl, (tt, s))
kept_statement kinds.Semicolon d stack n below s = s
kept_statement kinds.Int d stack n below s = (tt, s)
kept_statement kinds.Name d stack n below s = (tt, s)
kept_statement kinds.Increment d stack n below s = (tt, (tt, (tt, s)))
kept_statement kinds.Decrement d stack n below s = (tt, (tt, (tt, s)))
kept_statement kinds.CilkSpawn d stack n below s = (tt, (tt, (tt, (tt, s))))
kept_statement kinds.CilkSync d stack n below s = (tt, s)
kept_statement kinds.If d stack n below s = (tt, (tt, (refl, (tt, (tt, (tt, (tt, s)))))))
kept_statement kinds.While d stack n below s = (tt, (tt, (refl, (tt, (tt, (tt, s))))))
kept_statement kinds.For d stack n below s = (tt, (tt, (tt, (tt, (tt, s)))))
kept_statement kinds.CilkFor d stack n below s = (tt, (tt, (tt, (tt, (tt, (refl, (tt, (tt, (tt, (tt, (tt, (refl, (tt, (tt, (tt, (tt, (tt, s)))))))))))))))))
kept_statement kinds.Return d stack n below s = (tt, s)
kept_statement kinds.Print d stack n below s = (tt, (tt, (refl, (tt, (tt, (tt, s))))))
kept_statement kinds.Update d stack n below s = (tt, (tt, (tt, (tt, (refl, (tt, (tt, (tt, s))))))))
kept_statement kinds.Set d stack n below s = (tt, (tt, (tt, (tt, (refl, (tt, (tt, (tt, s))))))))
kept_statement _ d stack n below s = tt

kept_else : (k : Kind) (d : ℕ) (stack : List Symbol) (n : ℕ) (below : After) → Sound stack → SoundAfter below → SoundAfter (chosen (move_else d k) stack n below)
kept_else kinds.Else d stack n below s b = (tt, s)
kept_else _ d stack n below s b = b

kept_after_name : (k : Kind) (d : ℕ) (stack : List Symbol) (n : ℕ) (below : After) → Sound stack → SoundAfter (chosen (move_after_name d k) stack n below)
kept_after_name kinds.Open d stack n below s = (tt, (tt, s))
kept_after_name kinds.Assign d stack n below s = (refl, (tt, s))
kept_after_name kinds.OpenBracket d stack n below s = (tt, (refl, (tt, (tt, (refl, (tt, s))))))
kept_after_name kinds.PlusAssign d stack n below s = (tt, (refl, (tt, (tt, s))))
kept_after_name kinds.MinusAssign d stack n below s = (tt, (refl, (tt, (tt, s))))
kept_after_name kinds.StarAssign d stack n below s = (tt, (refl, (tt, (tt, s))))
kept_after_name kinds.Increment d stack n below s = (tt, s)
kept_after_name kinds.Decrement d stack n below s = (tt, s)
kept_after_name _ d stack n below s = tt

kept_assignment : (k : Kind) (d : ℕ) (stack : List Symbol) (n : ℕ) (below : After) → NoOperator (first_kind (finish stack)) → Sound stack → SoundAfter (chosen (move_assignment d k) stack n below)
kept_assignment kinds.Name d stack n below e s = (tt, (e, s))
kept_assignment kinds.Increment d stack n below e s = (tt, (tt, s))
kept_assignment kinds.Decrement d stack n below e s = (tt, (tt, s))
kept_assignment _ d stack n below e s = tt

kept_subscript : (k : Kind) (d : ℕ) (stack : List Symbol) (n : ℕ) (below : After) → Sound stack → SoundAfter below → SoundAfter (chosen (move_subscript d k) stack n below)
kept_subscript kinds.OpenBracket d stack n below s b = (tt, (refl, (tt, (tt, s))))
kept_subscript _ d stack n below s b = b

kept_operation : (k : Kind) (d : ℕ) (stack : List Symbol) (n : ℕ) (below : After) → NoOperator (first_kind (finish stack)) → Sound stack → SoundAfter (chosen (move_operation d k) stack n below)
kept_operation kinds.Assign d stack n below e s = (tt, (e, (tt, s)))
kept_operation kinds.PlusAssign d stack n below e s = (tt, (e, (tt, s)))
kept_operation kinds.MinusAssign d stack n below e s = (tt, (e, (tt, s)))
kept_operation kinds.StarAssign d stack n below e s = (tt, (e, (tt, s)))
kept_operation kinds.Increment d stack n below e s = s
kept_operation kinds.Decrement d stack n below e s = s
kept_operation _ d stack n below e s = tt

kept_source_rest : (k : Kind) (d : ℕ) (stack : List Symbol) (n : ℕ) (below : After) → NoOperator (first_kind (finish stack)) → Sound stack → SoundAfter below → SoundAfter (chosen (move_source_rest d k) stack n below)
kept_source_rest kinds.Open d stack n below e s b = (tt, s)
kept_source_rest kinds.OpenBracket d stack n below e s b = (tt, (refl, (tt, (e, (tt, s)))))
kept_source_rest kinds.Or d stack n below e s b = (tt, (e, (tt, s)))
kept_source_rest kinds.And d stack n below e s b = (tt, (e, (tt, s)))
kept_source_rest kinds.Equal d stack n below e s b = (tt, (e, (tt, s)))
kept_source_rest kinds.NotEqual d stack n below e s b = (tt, (e, (tt, s)))
kept_source_rest kinds.Less d stack n below e s b = (tt, (e, (tt, s)))
kept_source_rest kinds.LessEqual d stack n below e s b = (tt, (e, (tt, s)))
kept_source_rest kinds.Greater d stack n below e s b = (tt, (e, (tt, s)))
kept_source_rest kinds.GreaterEqual d stack n below e s b = (tt, (e, (tt, s)))
kept_source_rest kinds.Plus d stack n below e s b = (tt, (e, (tt, s)))
kept_source_rest kinds.Minus d stack n below e s b = (tt, (e, (tt, s)))
kept_source_rest kinds.Star d stack n below e s b = (tt, (e, (tt, s)))
kept_source_rest kinds.Slash d stack n below e s b = (tt, (e, (tt, s)))
kept_source_rest kinds.Percent d stack n below e s b = (tt, (e, (tt, s)))
kept_source_rest _ d stack n below e s b = b

kept_more_arguments : (k : Kind) (d : ℕ) (stack : List Symbol) (n : ℕ) (below : After) → Sound stack → SoundAfter (chosen (move_more_arguments d k) stack n below)
kept_more_arguments kinds.Comma d stack n below s = (tt, (refl, (tt, (tt, s))))
kept_more_arguments kinds.Close d stack n below s = s
kept_more_arguments _ d stack n below s = tt

kept_declaration : (k : Kind) (d : ℕ) (stack : List Symbol) (n : ℕ) (below : After) → Sound stack → SoundAfter (chosen (move_declaration d k) stack n below)
kept_declaration kinds.Name d stack n below s = (refl, (tt, s))
kept_declaration kinds.CilkReducer d stack n below s = (tt, (tt, (tt, (tt, (tt, s)))))
kept_declaration _ d stack n below s = tt

kept_local_initial : (k : Kind) (d : ℕ) (stack : List Symbol) (n : ℕ) (below : After) → NoOperator (first_kind (finish stack)) → Sound stack → SoundAfter below → SoundAfter (chosen (move_local_initial d k) stack n below)
kept_local_initial kinds.Assign d stack n below e s b = (e, s)
kept_local_initial _ d stack n below e s b = b

kept_locals : (k : Kind) (d : ℕ) (stack : List Symbol) (n : ℕ) (below : After) → Sound stack → SoundAfter (chosen (move_locals d k) stack n below)
kept_locals kinds.Comma d stack n below s = (tt, (refl, (tt, s)))
kept_locals kinds.Semicolon d stack n below s = s
kept_locals _ d stack n below s = tt

kept_unit_step : (k : Kind) (stack : List Symbol) (n : ℕ) (below : After) → Sound stack → SoundAfter (chosen (move_unit_step k) stack n below)
kept_unit_step kinds.Increment stack n below s = (tt, s)
kept_unit_step kinds.Name stack n below s = (tt, s)
kept_unit_step _ stack n below s = tt

kept_unit_step_rest : (k : Kind) (stack : List Symbol) (n : ℕ) (below : After) → Sound stack → SoundAfter (chosen (move_unit_step_rest k) stack n below)
kept_unit_step_rest kinds.Increment stack n below s = s
kept_unit_step_rest kinds.PlusAssign stack n below s = (tt, s)
kept_unit_step_rest _ stack n below s = tt

kept_item : (k : Kind) (stack : List Symbol) (n : ℕ) (below : After) → Sound stack → SoundAfter (chosen (move_item k) stack n below)
kept_item kinds.Name stack n below s = (tt, s)
kept_item kinds.CilkReducer stack n below s = (tt, (tt, (tt, (tt, (tt, s)))))
kept_item _ stack n below s = tt

kept_declared : (k : Kind) (stack : List Symbol) (n : ℕ) (below : After) → Sound stack → SoundAfter (chosen (move_declared k) stack n below)
kept_declared kinds.Open stack n below s = (tt, (tt, (refl, (tt, s))))
kept_declared kinds.Assign stack n below s = (tt, (tt, s))
kept_declared kinds.OpenBracket stack n below s = (tt, (tt, (tt, s)))
kept_declared kinds.Comma stack n below s = (tt, (tt, (tt, s)))
kept_declared kinds.Semicolon stack n below s = s
kept_declared _ stack n below s = tt

kept_literal : (k : Kind) (stack : List Symbol) (n : ℕ) (below : After) → Sound stack → SoundAfter (chosen (move_literal k) stack n below)
kept_literal (kinds.Number v) stack n below s = s
kept_literal kinds.Minus stack n below s = (tt, s)
kept_literal _ stack n below s = tt

kept_initial : (k : Kind) (stack : List Symbol) (n : ℕ) (below : After) → Sound stack → SoundAfter below → SoundAfter (chosen (move_initial k) stack n below)
kept_initial kinds.Assign stack n below s b = (tt, s)
kept_initial kinds.OpenBracket stack n below s b = (tt, (tt, s))
kept_initial _ stack n below s b = b

kept_variables : (k : Kind) (stack : List Symbol) (n : ℕ) (below : After) → Sound stack → SoundAfter (chosen (move_variables k) stack n below)
kept_variables kinds.Comma stack n below s = (tt, (tt, (tt, s)))
kept_variables kinds.Semicolon stack n below s = s
kept_variables _ stack n below s = tt

kept_parameters : (k : Kind) (stack : List Symbol) (n : ℕ) (below : After) → Sound stack → SoundAfter (chosen (move_parameters k) stack n below)
kept_parameters kinds.Close stack n below s = s
kept_parameters kinds.Void stack n below s = (tt, s)
kept_parameters kinds.Int stack n below s = (tt, (tt, s))
kept_parameters _ stack n below s = tt

kept_parameter : (k : Kind) (stack : List Symbol) (n : ℕ) (below : After) → Sound stack → SoundAfter (chosen (move_parameter k) stack n below)
kept_parameter kinds.Name stack n below s = s
kept_parameter kinds.CilkReducer stack n below s = (tt, (tt, (tt, (tt, s))))
kept_parameter _ stack n below s = tt

kept_more_parameters : (k : Kind) (stack : List Symbol) (n : ℕ) (below : After) → Sound stack → SoundAfter (chosen (move_more_parameters k) stack n below)
kept_more_parameters kinds.Comma stack n below s = (tt, (tt, (tt, s)))
kept_more_parameters kinds.Close stack n below s = s
kept_more_parameters _ stack n below s = tt

kept_items : (k : Kind) (stack : List Symbol) (n : ℕ) (below : After) → Sound (Items ∷ stack) → SoundAfter below → SoundAfter (chosen (move_items k) stack n below)
kept_items kinds.Int stack n below s b = (tt, s)
kept_items kinds.Void stack n below s b = (tt, (tt, (tt, (tt, (refl, (tt, s))))))
kept_items _ stack n below s b = b

kept_optional : (k : Kind) (d : ℕ) (stack : List Symbol) (n : ℕ) (below : After) → Sound stack → SoundAfter (chosen (move_optional d k) stack n below)
kept_optional kinds.Semicolon d stack n below s = s
kept_optional kinds.Minus d stack n below s = kept_operand kinds.Minus d (Tail d ∷ Anew ∷ One marks.Semicolon ∷ stack) n below (refl, (tt, (tt, s)))
kept_optional kinds.Not d stack n below s = kept_operand kinds.Not d (Tail d ∷ Anew ∷ One marks.Semicolon ∷ stack) n below (refl, (tt, (tt, s)))
kept_optional kinds.Open d stack n below s = kept_operand kinds.Open d (Tail d ∷ Anew ∷ One marks.Semicolon ∷ stack) n below (refl, (tt, (tt, s)))
kept_optional kinds.Value d stack n below s = kept_operand kinds.Value d (Tail d ∷ Anew ∷ One marks.Semicolon ∷ stack) n below (refl, (tt, (tt, s)))
kept_optional kinds.Input d stack n below s = kept_operand kinds.Input d (Tail d ∷ Anew ∷ One marks.Semicolon ∷ stack) n below (refl, (tt, (tt, s)))
kept_optional kinds.InputCount d stack n below s = kept_operand kinds.InputCount d (Tail d ∷ Anew ∷ One marks.Semicolon ∷ stack) n below (refl, (tt, (tt, s)))
kept_optional (kinds.Number v) d stack n below s = kept_operand (kinds.Number v) d (Tail d ∷ Anew ∷ One marks.Semicolon ∷ stack) n below (refl, (tt, (tt, s)))
kept_optional kinds.Name d stack n below s = kept_operand kinds.Name d (Tail d ∷ Anew ∷ One marks.Semicolon ∷ stack) n below (refl, (tt, (tt, s)))
kept_optional _ d stack n below s = tt

kept_source : (k : Kind) (d : ℕ) (stack : List Symbol) (n : ℕ) (below : After) → NoOperator (first_kind (finish stack)) → Sound stack → SoundAfter (chosen (move_source d k) stack n below)
kept_source kinds.CilkSpawn d stack n below e s = (tt, (tt, (tt, s)))
kept_source kinds.Name d stack n below e s = (e, s)
kept_source kinds.Minus d stack n below e s = kept_operand kinds.Minus d (Tail d ∷ Anew ∷ stack) n below (e, (tt, s))
kept_source kinds.Not d stack n below e s = kept_operand kinds.Not d (Tail d ∷ Anew ∷ stack) n below (e, (tt, s))
kept_source kinds.Open d stack n below e s = kept_operand kinds.Open d (Tail d ∷ Anew ∷ stack) n below (e, (tt, s))
kept_source kinds.Value d stack n below e s = kept_operand kinds.Value d (Tail d ∷ Anew ∷ stack) n below (e, (tt, s))
kept_source kinds.Input d stack n below e s = kept_operand kinds.Input d (Tail d ∷ Anew ∷ stack) n below (e, (tt, s))
kept_source kinds.InputCount d stack n below e s = kept_operand kinds.InputCount d (Tail d ∷ Anew ∷ stack) n below (e, (tt, s))
kept_source (kinds.Number v) d stack n below e s = kept_operand (kinds.Number v) d (Tail d ∷ Anew ∷ stack) n below (e, (tt, s))
kept_source _ d stack n below e s = tt

kept_arguments : (k : Kind) (d : ℕ) (stack : List Symbol) (n : ℕ) (below : After) → Sound stack → SoundAfter (chosen (move_arguments d k) stack n below)
kept_arguments kinds.Close d stack n below s = s
kept_arguments kinds.Minus d stack n below s = kept_operand kinds.Minus d (Tail d ∷ Anew ∷ MoreArguments d ∷ stack) n below (refl, (tt, (tt, s)))
kept_arguments kinds.Not d stack n below s = kept_operand kinds.Not d (Tail d ∷ Anew ∷ MoreArguments d ∷ stack) n below (refl, (tt, (tt, s)))
kept_arguments kinds.Open d stack n below s = kept_operand kinds.Open d (Tail d ∷ Anew ∷ MoreArguments d ∷ stack) n below (refl, (tt, (tt, s)))
kept_arguments kinds.Value d stack n below s = kept_operand kinds.Value d (Tail d ∷ Anew ∷ MoreArguments d ∷ stack) n below (refl, (tt, (tt, s)))
kept_arguments kinds.Input d stack n below s = kept_operand kinds.Input d (Tail d ∷ Anew ∷ MoreArguments d ∷ stack) n below (refl, (tt, (tt, s)))
kept_arguments kinds.InputCount d stack n below s = kept_operand kinds.InputCount d (Tail d ∷ Anew ∷ MoreArguments d ∷ stack) n below (refl, (tt, (tt, s)))
kept_arguments (kinds.Number v) d stack n below s = kept_operand (kinds.Number v) d (Tail d ∷ Anew ∷ MoreArguments d ∷ stack) n below (refl, (tt, (tt, s)))
kept_arguments kinds.Name d stack n below s = kept_operand kinds.Name d (Tail d ∷ Anew ∷ MoreArguments d ∷ stack) n below (refl, (tt, (tt, s)))
kept_arguments _ d stack n below s = tt

kept_beginning : (k : Kind) (d : ℕ) (stack : List Symbol) (n : ℕ) (below : After) → Sound stack → SoundAfter (chosen (move_beginning d k) stack n below)
kept_beginning kinds.Semicolon d stack n below s = s
kept_beginning kinds.Int d stack n below s = (tt, (tt, (tt, (refl, (tt, (tt, s))))))
kept_beginning kinds.Name d stack n below s = kept_assignment kinds.Name d (One marks.Semicolon ∷ stack) n below refl (tt, s)
kept_beginning kinds.Increment d stack n below s = kept_assignment kinds.Increment d (One marks.Semicolon ∷ stack) n below refl (tt, s)
kept_beginning kinds.Decrement d stack n below s = kept_assignment kinds.Decrement d (One marks.Semicolon ∷ stack) n below refl (tt, s)
kept_beginning _ d stack n below s = tt

kept_step : (k : Kind) (d : ℕ) (stack : List Symbol) (n : ℕ) (below : After) → Sound stack → SoundAfter (chosen (move_step d k) stack n below)
kept_step kinds.Close d stack n below s = s
kept_step kinds.Name d stack n below s = kept_assignment kinds.Name d (One marks.Close ∷ stack) n below refl (tt, s)
kept_step kinds.Increment d stack n below s = kept_assignment kinds.Increment d (One marks.Close ∷ stack) n below refl (tt, s)
kept_step kinds.Decrement d stack n below s = kept_assignment kinds.Decrement d (One marks.Close ∷ stack) n below refl (tt, s)
kept_step _ d stack n below s = tt

kept_statements : (b : Bool) (k : Kind) (d : ℕ) (stack : List Symbol) (n : ℕ) → begins_statement k ≡ b → Sound (Statements d ∷ stack) → SoundAfter (after stack n k) → SoundAfter (after (Statements d ∷ stack) n k)
kept_statements true k d stack n e s b =
    subst SoundAfter (sym (form_repeats d k stack n e)) (kept_statement k d (Statements d ∷ stack) n (after (Statements d ∷ stack) n k) s)
kept_statements false k d stack n e s b =
    subst (λ x. SoundAfter (chosen (cond x (followed (Statements d ∷ []) (move_statement d k)) Passes) stack n (after stack n k))) (sym e) b

-- each move keeps the list sound
pub kept : (stack : List Symbol) (n : ℕ) (k : Kind) → Sound stack → SoundAfter (after stack n k)
kept [] n k s = tt
kept (One mark ∷ stack) n k s = kept_one (fits mark k) stack n (after stack n k) s.1
kept (Named ∷ stack) n k s = kept_named k stack n (after stack n k) s.1
kept (Numeral ∷ stack) n k s = kept_numeral k stack n (after stack n k) s.1
kept (Single ∷ stack) n k s = kept_single k stack n (after stack n k) s.1
kept (Operand d ∷ stack) n k s = kept_operand k d stack n (after stack n k) s.1
kept (Index d ∷ stack) n k s = kept_index k d stack n (after stack n k) s.1 (kept stack n k s.1)
kept (Tail d ∷ stack) n k s = kept_tail (level_of k) d stack n (after stack n k) s (kept stack n k s.1)
kept (Anew ∷ stack) n k s = kept stack 0 k s.1
kept (Optional d ∷ stack) n k s = kept_optional k d stack n (after stack n k) s.1
kept (Statement d ∷ stack) n k s = kept_statement k d stack n (after stack n k) s.1
kept (Statements d ∷ stack) n k s = kept_statements (begins_statement k) k d stack n refl s (kept stack n k s.1)
kept (ElsePart d ∷ stack) n k s = kept_else k d stack n (after stack n k) s.1 (kept stack n k s.1)
kept (AfterName d ∷ stack) n k s = kept_after_name k d stack n (after stack n k) s.1
kept (Assignment d ∷ stack) n k s = kept_assignment k d stack n (after stack n k) s.0 s.1
kept (Subscript d ∷ stack) n k s = kept_subscript k d stack n (after stack n k) s.1 (kept stack n k s.1)
kept (Operation d ∷ stack) n k s = kept_operation k d stack n (after stack n k) s.0 s.1
kept (Source d ∷ stack) n k s = kept_source k d stack n (after stack n k) s.0 s.1
kept (SourceRest d ∷ stack) n k s = kept_source_rest k d stack n (after stack 0 k) s.0 s.1 (kept stack 0 k s.1)
kept (Arguments d ∷ stack) n k s = kept_arguments k d stack n (after stack n k) s.1
kept (MoreArguments d ∷ stack) n k s = kept_more_arguments k d stack n (after stack n k) s.1
kept (Declaration d ∷ stack) n k s = kept_declaration k d stack n (after stack n k) s.1
kept (LocalInitial d ∷ stack) n k s = kept_local_initial k d stack n (after stack n k) s.0 s.1 (kept stack n k s.1)
kept (Locals d ∷ stack) n k s = kept_locals k d stack n (after stack n k) s.1
kept (Beginning d ∷ stack) n k s = kept_beginning k d stack n (after stack n k) s.1
kept (Step d ∷ stack) n k s = kept_step k d stack n (after stack n k) s.1
kept (UnitStep ∷ stack) n k s = kept_unit_step k stack n (after stack n k) s.1
kept (UnitStepRest ∷ stack) n k s = kept_unit_step_rest k stack n (after stack n k) s.1
kept (Item ∷ stack) n k s = kept_item k stack n (after stack n k) s.1
kept (Declared ∷ stack) n k s = kept_declared k stack n (after stack n k) s.1
kept (Literal ∷ stack) n k s = kept_literal k stack n (after stack n k) s.1
kept (Initial ∷ stack) n k s = kept_initial k stack n (after stack n k) s.1 (kept stack n k s.1)
kept (Variables ∷ stack) n k s = kept_variables k stack n (after stack n k) s.1
kept (Parameters ∷ stack) n k s = kept_parameters k stack n (after stack n k) s.1
kept (Parameter ∷ stack) n k s = kept_parameter k stack n (after stack n k) s.1
kept (MoreParameters ∷ stack) n k s = kept_more_parameters k stack n (after stack n k) s.1
kept (Items ∷ stack) n k s = kept_items k stack n (after stack n k) s (kept stack n k s.1)

-- read to the end
abbrev pub Reads : List Token → List Symbol → ℕ → Type 0
Reads ts stack n = (past : List Bool) × (trace ts stack n ≡ Some past)

items_go : (k : Kind) (stack : List Symbol) (n : ℕ) (below : After) → is_type k ≡ false → chosen (move_items k) stack n below ≡ below
items_go kinds.Int stack n below h = cc
items_go kinds.Void stack n below h = cc
items_go _ stack n below h = refl

along : (o o' : Option (List Bool)) → o ≡ o' → ((past : List Bool) × (o' ≡ Some past)) → (past : List Bool) × (o ≡ Some past)
along o o' e h = (h.0, e ∙ h.1)

-- the next token passes a symbol that may be empty
pass_tail : (ts : List Token) (d : ℕ) (stack : List Symbol) (n : ℕ) → NoOperator (first_kind ts) → trace ts (Tail d ∷ stack) n ≡ trace ts stack n
pass_tail [] d stack n h = refl
pass_tail (t ∷ ts) d stack n h = ap (λ o. noted (chosen (move_tail d o) stack n (after stack n t.kind)) (trace ts)) h

pass_anew : (ts : List Token) (stack : List Symbol) (n : ℕ) → trace ts (Anew ∷ stack) n ≡ trace ts stack 0
pass_anew [] stack n = refl
pass_anew (t ∷ ts) stack n = refl

pass_statements : (ts : List Token) (d : ℕ) (stack : List Symbol) (n : ℕ) → NoStatement (first_kind ts) → trace ts (Statements d ∷ stack) n ≡ trace ts stack n
pass_statements [] d stack n h = refl
pass_statements (t ∷ ts) d stack n h =
    ap (λ b. noted (chosen (cond b (followed (Statements d ∷ []) (move_statement d t.kind)) Passes) stack n (after stack n t.kind)) (trace ts)) h

pass_items : (ts : List Token) (stack : List Symbol) (n : ℕ) → NoType (first_kind ts) → trace ts (Items ∷ stack) n ≡ trace ts stack n
pass_items [] stack n h = refl
pass_items (t ∷ ts) stack n h = ap (λ a. noted a (trace ts)) (items_go t.kind stack n (after stack n t.kind) h)

-- a token that is read, before tokens that are read to their end
taken : (b : Bool) (o : Option (List Bool)) → ((past : List Bool) × (o ≡ Some past)) → (past : List Bool) × (ahead b o ≡ Some past)
taken b o h = (b ∷ h.0, ap (ahead b) h.1)

pub completes : (stack : List Symbol) (n : ℕ) → Sound stack → Reads (finish stack) stack n
completes [] n s = ([], refl)
completes (One mark ∷ stack) n s =
    let h = completes stack n s.1 in
    (false ∷ h.0, ap (λ b. noted (chosen (move_one b) stack n (after stack n (kind_of mark))) (trace (finish stack))) (fits_own mark) ∙ ap (ahead false) h.1)
completes (Named ∷ stack) n s = taken false _ (completes stack n s.1)
completes (Numeral ∷ stack) n s = taken false _ (completes stack n s.1)
completes (Single ∷ stack) n s = taken false _ (completes stack n s.1)
completes (Operand d ∷ stack) n s = taken (is_deep d) _ (completes stack n s.1)
completes (Index d ∷ stack) n s = taken false _ (taken (is_deep (d + 1)) _ (taken false _ (completes stack n s.1)))
completes (Tail d ∷ stack) n s = along _ _ (pass_tail (finish stack) d stack n s.0) (completes stack n s.1)
completes (Anew ∷ stack) n s = along _ _ (pass_anew (finish stack) stack n) (completes stack 0 s.1)
completes (Optional d ∷ stack) n s = taken false _ (completes stack n s.1)
completes (Statement d ∷ stack) n s = taken (is_deep d) _ (completes stack n s.1)
completes (Statements d ∷ stack) n s = along _ _ (pass_statements (finish stack) d stack n s.0) (completes stack n s.1)
completes (ElsePart d ∷ stack) n s = taken false _ (taken (is_deep d) _ (completes stack n s.1))
completes (AfterName d ∷ stack) n s = taken false _ (taken false _ (completes stack n s.1))
completes (Assignment d ∷ stack) n s = taken false _ (taken false _ (completes stack n s.1))
completes (Subscript d ∷ stack) n s = taken false _ (taken (is_deep (d + 1)) _ (taken false _ (completes stack 0 s.1)))
completes (Operation d ∷ stack) n s = taken false _ (completes stack n s.1)
completes (Source d ∷ stack) n s = taken (is_deep d) _ (taken false _ (taken false _ (completes stack n s.1)))
completes (SourceRest d ∷ stack) n s = taken false _ (taken false _ (completes stack n s.1))
completes (Arguments d ∷ stack) n s = taken false _ (completes stack n s.1)
completes (MoreArguments d ∷ stack) n s = taken false _ (completes stack n s.1)
completes (Declaration d ∷ stack) n s = taken false _ (taken false _ (completes stack n s.1))
completes (LocalInitial d ∷ stack) n s = taken false _ (taken (is_deep d) _ (taken false _ (taken false _ (completes stack n s.1))))
completes (Locals d ∷ stack) n s = taken false _ (completes stack n s.1)
completes (Beginning d ∷ stack) n s = taken false _ (completes stack n s.1)
completes (Step d ∷ stack) n s = taken false _ (completes stack n s.1)
completes (UnitStep ∷ stack) n s = taken false _ (taken false _ (completes stack n s.1))
completes (UnitStepRest ∷ stack) n s = taken false _ (completes stack n s.1)
completes (Item ∷ stack) n s = taken false _ (taken false _ (completes stack n s.1))
completes (Declared ∷ stack) n s = taken false _ (completes stack n s.1)
completes (Literal ∷ stack) n s = taken false _ (completes stack n s.1)
completes (Initial ∷ stack) n s = taken false _ (taken false _ (completes stack n s.1))
completes (Variables ∷ stack) n s = taken false _ (completes stack n s.1)
completes (Parameters ∷ stack) n s = taken false _ (completes stack n s.1)
completes (Parameter ∷ stack) n s = taken false _ (completes stack n s.1)
completes (MoreParameters ∷ stack) n s = taken false _ (completes stack n s.1)
completes (Items ∷ stack) n s = along _ _ (pass_items (finish stack) stack n s.0) (completes stack n s.1)

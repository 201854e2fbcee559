-- The text of a program's code, line by line.
use Rattle.std.specs.Prelude.{ℕ, ◌+◌, ◌-◌, Bool, true, false, List, [], ◌∷◌, ◌++◌, codes, decimal, length, replicate}
use Rattle.std.specs.Fmt.{signed_decimal}
use Rattle.bytecode.specs.declared.instr.Instr.{Instr}
use Rattle.bytecode.specs.declared.instr.Instr.TheVariants as instrs
use Rattle.bytecode.specs.declared.lines.Operands.{Operands}
use Rattle.bytecode.specs.declared.lines.Operands.TheVariants as operands
use Rattle.bytecode.specs.Code.{Function, Code}
use Rattle.word.specs.declared.apply.Op.{Op}
use Rattle.word.specs.declared.apply.Op.TheVariants as ops

-- what a truth value and an operator are called
abbrev pub truth_name : Bool → List ℕ
truth_name true = codes "true"
truth_name false = codes "false"

abbrev pub op_name : Op → List ℕ
op_name ops.Add = codes "add"
op_name ops.Sub = codes "sub"
op_name ops.Mul = codes "mul"
op_name ops.Div = codes "div"
op_name ops.Rem = codes "rem"
op_name ops.And = codes "and"
op_name ops.Or = codes "or"
op_name ops.Xor = codes "xor"
op_name ops.AndNot = codes "andnot"
op_name ops.Shl = codes "shl"
op_name ops.Shr = codes "shr"
op_name ops.Neg = codes "neg"
op_name ops.Com = codes "com"
op_name ops.Not = codes "not"
op_name ops.EqInt = codes "eqi"
op_name ops.NeInt = codes "nei"
op_name ops.Lt = codes "lt"
op_name ops.Le = codes "le"
op_name ops.Gt = codes "gt"
op_name ops.Ge = codes "ge"
op_name ops.EqBool = codes "eqb"
op_name ops.NeBool = codes "neb"
op_name ops.EqChan = codes "eqc"
op_name ops.NeChan = codes "nec"

-- an instruction
abbrev pub instr_text : Instr → List ℕ
instr_text (instrs.Int n) = codes "int " ++ signed_decimal n
instr_text (instrs.Bool b) = codes "bool " ++ truth_name b
instr_text (instrs.Nil s) = codes "nil " ++ decimal s
instr_text (instrs.Load a n) = codes "load " ++ decimal a ++ codes " " ++ decimal n
instr_text (instrs.Store a n) = codes "store " ++ decimal a ++ codes " " ++ decimal n
instr_text (instrs.Pick t a n) = codes "pick " ++ decimal t ++ codes " " ++ decimal a ++ codes " " ++ decimal n
instr_text (instrs.Discard n) = codes "drop " ++ decimal n
instr_text (instrs.Apply op) = codes "apply " ++ op_name op
instr_text instrs.Tick = codes "tick"
instr_text (instrs.Jump to) = codes "jump " ++ decimal to
instr_text (instrs.Unless to) = codes "unless " ++ decimal to
instr_text (instrs.Loop to) = codes "loop " ++ decimal to
instr_text (instrs.Call f) = codes "call " ++ decimal f
instr_text instrs.Return = codes "return"
instr_text (instrs.Make s) = codes "make " ++ decimal s
instr_text (instrs.Go f) = codes "go " ++ decimal f
instr_text (instrs.Send s) = codes "send " ++ decimal s
instr_text (instrs.Receive s) = codes "receive " ++ decimal s
instr_text instrs.Close = codes "close"
instr_text instrs.Len = codes "len"
instr_text instrs.Cap = codes "cap"
instr_text (instrs.Print q) = codes "print " ++ decimal q
instr_text (instrs.Select q) = codes "select " ++ decimal q

-- what is listed after an instruction's name
abbrev pub operands_text : Operands → List ℕ
operands_text operands.Nothing = []
operands_text (operands.Number n) = codes " " ++ signed_decimal n
operands_text (operands.Truth b) = codes " " ++ truth_name b
operands_text (operands.Operator op) = codes " " ++ op_name op
operands_text (operands.One a) = codes " " ++ decimal a
operands_text (operands.Two a b) = codes " " ++ decimal a ++ codes " " ++ decimal b
operands_text (operands.Three a b c) = codes " " ++ decimal a ++ codes " " ++ decimal b ++ codes " " ++ decimal c

-- right-aligned to six columns, or to more if it is longer
abbrev pub right_aligned : List ℕ → List ℕ
right_aligned text = replicate (6 - length text) 32 ++ text

-- the line of the instruction at the pc `place`
abbrev pub instr_line : ℕ → Instr → List ℕ
instr_line place i = right_aligned (decimal place) ++ (codes " " ++ (instr_text i ++ codes "\n"))

-- the lines of instructions, the first of which is at the pc `place`
abbrev pub instr_lines : ℕ → List Instr → List ℕ
instr_lines place [] = []
instr_lines place (i ∷ is) = instr_line place i ++ instr_lines (place + 1) is

-- a function: its name and how many words its parameters, its locals and its results take
abbrev pub heading : Function → List ℕ
heading f =
    codes "func " ++ (f.name ++ (codes " params " ++ (decimal f.params ++ (codes " locals " ++ (decimal (length f.locals) ++ (codes " result " ++ (decimal (length f.results) ++ codes "\n")))))))

abbrev pub function_lines : List Function → List ℕ
function_lines [] = []
function_lines (f ∷ fs) = heading f ++ (instr_lines 0 f.instrs ++ function_lines fs)

-- the listing of a code
abbrev pub listing : Code → List ℕ
listing code = function_lines code.functions

-- What a decoded word's fields are: those of the paper's word. Assumes nothing.
use Rattle.std.specs.Prelude.{◌≡◌, ℕ}
use Rattle.paper.specs.Bits.{bits}
use Rattle.paper.specs.Word.{Source, src0, src1, we_ctrl, qtr_ctrl, pred_ctrl, pred_inv, exec_size, cond_modifier, saturate, flag_choice}
use Rattle.paper.specs.Word.{access_mode, dep_ctrl, thread_ctrl, acc_wr_ctrl, cmpt_ctrl, debug_ctrl}
use Rattle.paper.specs.Word.{dst_file, dst_type, dst_addr_mode, src_file, src_type, src_modifier, src_addr_mode}
use Rattle.paper.specs.Region.{operand_of}
use Rattle.paper.specs.Operation as paper
use Rattle.laws.specs.Regions.{dst_region}
use Rattle.words.specs.Operations.{operation_is}
use Rattle.words.specs.Regions.{region_is}
use Rattle.words.specs.Operands.{operand_is}
use Rattle.words.specs.declared.decoded.Control.{Control}
use Rattle.words.specs.declared.decoded.Carried.{Carried}
use Rattle.words.specs.declared.decoded.Destination.{Destination}
use Rattle.words.specs.declared.decoded.Input.{Input}
use Rattle.words.specs.declared.decoded.Decoded.{Decoded}

-- The control fields.
pub record ControlMeans (r : Control) (w : ℕ) : Type 0 where
  pub size : r.size ≡ exec_size w
  pub quarter : r.quarter ≡ qtr_ctrl w
  pub predicate : r.predicate ≡ pred_ctrl w
  pub inverted : r.inverted ≡ pred_inv w
  pub flag : r.flag ≡ flag_choice w
  pub condition : r.condition ≡ cond_modifier w
  pub saturated : r.saturated ≡ saturate w
  pub unmasked : r.unmasked ≡ we_ctrl w

-- Those that are only carried.
pub record CarriedMeans (r : Carried) (w : ℕ) : Type 0 where
  pub access : r.access ≡ access_mode w
  pub dependency : r.dependency ≡ dep_ctrl w
  pub thread : r.thread ≡ thread_ctrl w
  pub accumulator : r.accumulator ≡ acc_wr_ctrl w
  pub compact : r.compact ≡ cmpt_ctrl w
  pub debug : r.debug ≡ debug_ctrl w

-- The destination.
pub record DestinationMeans (r : Destination) (w : ℕ) : Type 0 where
  pub file : r.file ≡ dst_file w
  pub kind : r.kind ≡ dst_type w
  pub mode : r.mode ≡ dst_addr_mode w
  pub region : region_is r.region ≡ dst_region w

-- Source x.
pub record InputMeans (r : Input) (x : Source) (w : ℕ) : Type 0 where
  pub file : r.file ≡ src_file x w
  pub kind : r.kind ≡ src_type x w
  pub modifier : r.modifier ≡ src_modifier x w
  pub mode : r.mode ≡ src_addr_mode x w
  pub operand : operand_is r.operand ≡ operand_of x w

-- The whole word.
pub record Means (r : Decoded) (w : ℕ) : Type 0 where
  pub operation : operation_is r.operation ≡ paper.operation w
  pub control : ControlMeans r.control w
  pub carried : CarriedMeans r.carried w
  pub destination : DestinationMeans r.destination w
  pub first : InputMeans r.first src0 w
  pub second : InputMeans r.second src1 w
  pub near : r.near ≡ bits w 48 16
  pub far : r.far ≡ bits w 96 32
  pub jip : r.jip ≡ bits w 96 16
  pub uip : r.uip ≡ bits w 112 16

-- The number, the place and the layer of each refusal.
use Rattle.std.specs.Prelude.{ℕ, List, cond, nat_le, codes}
use Rattle.reader.specs.Faults.{number_of}
use Rattle.reader.specs.Written.{Refusal}
use Rattle.book.specs.Faults as book
use Rattle.service.specs.declared.fault.Fault.{Fault}
use Rattle.service.specs.declared.fault.Fault.TheVariants as fault
use Rattle.service.specs.declared.fault.Layer.{Layer}
use Rattle.service.specs.declared.fault.Layer.TheVariants as layer

abbrev pub fault_number : Fault → ℕ
fault_number (fault.Reader f) = number_of f.reason
fault_number (fault.Register f) = 11
fault_number (fault.Book f) = book.fault_number f
fault_number fault.Budget = 32
fault_number fault.TreeBytes = 33
fault_number fault.Release = 34

abbrev pub fault_place : Fault → ℕ
fault_place (fault.Reader f) = f.place
fault_place (fault.Register f) = f.place
fault_place (fault.Book f) = 0
fault_place fault.Budget = 0
fault_place fault.TreeBytes = 0
fault_place fault.Release = 0

abbrev pub fault_layer : Fault → Layer
fault_layer (fault.Reader f) = layer.Reader
fault_layer (fault.Register f) = layer.Register
fault_layer (fault.Book f) = layer.Book
fault_layer fault.Budget = layer.Service
fault_layer fault.TreeBytes = layer.Service
fault_layer fault.Release = layer.Service

-- the layers by numbers: the reader's are 1 to 5, the register's is 11, the book's are 21 to 31, the service's 32 to 34,
-- a chart's 41 to 44, the console's 51 and 52
abbrev pub layer_of : ℕ → Layer
layer_of n =
    cond (nat_le n 5) layer.Reader
    (cond (nat_le n 11) layer.Register (cond (nat_le n 31) layer.Book (cond (nat_le n 34) layer.Service (cond (nat_le n 44) layer.Chart layer.Console))))

abbrev pub layer_name : Layer → List ℕ
layer_name layer.Reader = codes "reader"
layer_name layer.Register = codes "register"
layer_name layer.Book = codes "book"
layer_name layer.Service = codes "service"
layer_name layer.Chart = codes "chart"
layer_name layer.Console = codes "console"

-- the refusal that a fault tells
abbrev pub refusal : Fault → Refusal
refusal f = record { number = fault_number f; place = fault_place f }

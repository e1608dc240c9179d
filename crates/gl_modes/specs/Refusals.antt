-- The numbers and names of refusals.
use Rattle.std.specs.Prelude.{ℕ, List, codes}
use Rattle.gl_modes.specs.declared.refusal.Refusal.{Refusal}
use Rattle.gl_modes.specs.declared.refusal.Refusal.TheVariants.{
  NoMemory,
  NoSuchNode,
  NoSuchTxn,
  TxnWaiting,
  TxnCondemned,
  BadMode,
  NeedParents,
  NotHeld,
  HeldChild,
  WouldBlock,
  TooManyTxns,
  TooManyNodes,
  BadParents,
  NeedExclusive,
  NotWaiting,
  NameTaken,
  FileInUse,
  BadKeys,
  WornOut,
  BadLine,
  Cycle,
  RecordInUse,
  HasChildren,
  NeedRelease,
}

-- the number of a refusal, as scripts print it
abbrev pub refusal_number : Refusal → ℕ
refusal_number NoMemory = 1
refusal_number NoSuchNode = 2
refusal_number NoSuchTxn = 3
refusal_number TxnWaiting = 4
refusal_number TxnCondemned = 5
refusal_number BadMode = 6
refusal_number (NeedParents _) = 7
refusal_number NotHeld = 8
refusal_number (HeldChild _) = 9
refusal_number WouldBlock = 10
refusal_number TooManyTxns = 11
refusal_number TooManyNodes = 12
refusal_number BadParents = 13
refusal_number NeedExclusive = 14
refusal_number NotWaiting = 15
refusal_number NameTaken = 16
refusal_number FileInUse = 17
refusal_number BadKeys = 18
refusal_number WornOut = 19
refusal_number BadLine = 20
refusal_number (Cycle _) = 21
refusal_number RecordInUse = 22
refusal_number HasChildren = 23
refusal_number NeedRelease = 24

-- its name, as scripts print it
abbrev pub refusal_name : Refusal → List ℕ
refusal_name NoMemory = codes "NoMemory"
refusal_name NoSuchNode = codes "NoSuchNode"
refusal_name NoSuchTxn = codes "NoSuchTxn"
refusal_name TxnWaiting = codes "TxnWaiting"
refusal_name TxnCondemned = codes "TxnCondemned"
refusal_name BadMode = codes "BadMode"
refusal_name (NeedParents _) = codes "NeedParents"
refusal_name NotHeld = codes "NotHeld"
refusal_name (HeldChild _) = codes "HeldChild"
refusal_name WouldBlock = codes "WouldBlock"
refusal_name TooManyTxns = codes "TooManyTxns"
refusal_name TooManyNodes = codes "TooManyNodes"
refusal_name BadParents = codes "BadParents"
refusal_name NeedExclusive = codes "NeedExclusive"
refusal_name NotWaiting = codes "NotWaiting"
refusal_name NameTaken = codes "NameTaken"
refusal_name FileInUse = codes "FileInUse"
refusal_name BadKeys = codes "BadKeys"
refusal_name WornOut = codes "WornOut"
refusal_name BadLine = codes "BadLine"
refusal_name (Cycle _) = codes "Cycle"
refusal_name RecordInUse = codes "RecordInUse"
refusal_name HasChildren = codes "HasChildren"
refusal_name NeedRelease = codes "NeedRelease"

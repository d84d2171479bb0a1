-- The queue's laws. A caller uses OrderLaws (the order is total), MemberLaws and QueueLaws; the others serve the proofs of the queue's own functions.
pub mod CaseLaws
pub mod OrderLaws
pub mod KeyLaws
pub mod HeapLaws
pub mod MemberLaws
pub mod PlaceLaws
pub mod SiftLaws
pub mod HoleLaws
pub mod CallLaws
pub mod QueueLaws
pub mod RuleLaws

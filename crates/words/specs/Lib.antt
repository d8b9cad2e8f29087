-- Numbers and bytes as definitions: bytes and the lists they stand for, and what the calls on lists leave.
pub mod Bytes
pub mod Handed

mod Calling
mod SameBits
